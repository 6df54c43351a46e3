-- Each arm's run is that of its tree.
use Rattle.std.proofs.Common.{rules, ◌≡◌, w64}
use Rattle.std.proofs.lemmas.Int.{to_z-of_z}
use Rattle.qm_weight.specs.Tree.{all, none}
use Rattle.qm_weight.specs.Weights.{phrase_prefix_tree, phrase_tree, prefix_tree, term_tree, terms_tree, tree_of}
use Rattle.qm_weight.specs.declared.any_weight.AnyWeight as w
use Rattle.qm_weight.proofs.any_weight.AnyWeightWeight.for_each_pruning_counted.Goals as goal

pub for_each_pruning_counted-requires : goal.for_each_pruning_counted-requires
for_each_pruning_counted-requires g c =
    let same : all ≡ tree_of c.args.self.now = search (rules, w.the_lemmas) in
    record {
      allowed = rw (same, to_z-of_z w64 c.args.threshold c.ranges.threshold) c.requires.allowed;
    }

pub for_each_pruning_counted-requires-in-Empty : goal.for_each_pruning_counted-requires-in-Empty
for_each_pruning_counted-requires-in-Empty g c =
    let same : none ≡ tree_of c.args.self.now = search (rules, w.the_lemmas) in
    record {
      allowed = rw (same, to_z-of_z w64 c.args.threshold c.ranges.threshold) c.requires.allowed;
    }

pub for_each_pruning_counted-requires-in-Term : goal.for_each_pruning_counted-requires-in-Term
for_each_pruning_counted-requires-in-Term g c =
    let same : term_tree c.in-Term.leaf ≡ tree_of c.args.self.now = search (rules, w.the_lemmas) in
    record {
      allowed = rw (same, to_z-of_z w64 c.args.threshold c.ranges.threshold) c.requires.allowed;
    }

pub for_each_pruning_counted-requires-in-Terms : goal.for_each_pruning_counted-requires-in-Terms
for_each_pruning_counted-requires-in-Terms g c =
    let same : terms_tree c.in-Terms.leaf ≡ tree_of c.args.self.now = search (rules, w.the_lemmas) in
    record {
      allowed = rw (same, to_z-of_z w64 c.args.threshold c.ranges.threshold) c.requires.allowed;
    }

pub for_each_pruning_counted-requires-in-Phrase : goal.for_each_pruning_counted-requires-in-Phrase
for_each_pruning_counted-requires-in-Phrase g c =
    let same : phrase_tree c.in-Phrase.leaf ≡ tree_of c.args.self.now = search (rules, w.the_lemmas) in
    record {
      allowed = rw (same, to_z-of_z w64 c.args.threshold c.ranges.threshold) c.requires.allowed;
    }

pub for_each_pruning_counted-requires-in-PhrasePrefix : goal.for_each_pruning_counted-requires-in-PhrasePrefix
for_each_pruning_counted-requires-in-PhrasePrefix g c =
    let same : phrase_prefix_tree c.in-PhrasePrefix.leaf ≡ tree_of c.args.self.now = search (rules, w.the_lemmas) in
    record {
      allowed = rw (same, to_z-of_z w64 c.args.threshold c.ranges.threshold) c.requires.allowed;
    }

pub for_each_pruning_counted-requires-in-Prefix : goal.for_each_pruning_counted-requires-in-Prefix
for_each_pruning_counted-requires-in-Prefix g c =
    let same : prefix_tree c.in-Prefix.leaf ≡ tree_of c.args.self.now = search (rules, w.the_lemmas) in
    record {
      allowed = rw (same, to_z-of_z w64 c.args.threshold c.ranges.threshold) c.requires.allowed;
    }

pub prune_any-requires-clause-allowed : goal.prune_any-requires-clause-allowed
prune_any-requires-clause-allowed g c =
    rw (to_z-of_z w64 c.args.threshold c.ranges.threshold) c.requires.allowed
