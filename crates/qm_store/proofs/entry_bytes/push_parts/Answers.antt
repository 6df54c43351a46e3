use Rattle.std.proofs.Common.{◌≡◌, ◌+◌, ◌++◌, false, cond, ap, sym, ◌∙◌, arith, drop, length, take}
use Rattle.std.proofs.lemmas.Bool.{lt-leb}
use Rattle.std.proofs.lemmas.List.{length-append, take-append-drop}
use Rattle.qm_store.specs.Stored.{here_bytes, is_short, named, there_bytes}
use Rattle.qm_store.proofs.entry_bytes.push_parts.Goals as goal

pub returns-clause-block : goal.returns-clause-block
returns-clause-block c =
    let row = c.args.row.now in
    let front = take c.args.postings row in
    let back = drop c.args.postings row in
    let out = c.args.out.now.items in
    let block = c.args.block.now.items in
    let at = length out in
    let whole : length front + length back ≡ length row = sym (length-append front back) ∙ ap length (take-append-drop c.args.postings row) in
    let long : is_short front back ≡ false = lt-leb (length front + length back) 64 (omega (arith, whole, c.if-row-le-SHORT_ROW.false)) in
    let first-is : c.in_ok-first.first ≡ named c.args.key at front = c.in_ok-first.ensures.named ∙ ap (named c.args.key at) c.split_at.ensures.front in
    let behind : length c.push_named.new.out.items ≡ at + length front =
    ap length (c.in_ok-first.ensures.added ∙ ap (λ l. out ++ l) c.split_at.ensures.front) ∙ length-append out front
    in
    let second-is : c.in_ok-second.second ≡ named c.args.key (at + length front) back =
    c.in_ok-second.ensures.named ∙ (λ i. named c.args.key (behind i) (c.split_at.ensures.back i))
    in
    c.in_ok-push_there.ensures
    ∙ (λ i. block ++ there_bytes (first-is i) (second-is i))
    ∙ sym (ap (λ b. block ++ cond b (here_bytes front back) (there_bytes (named c.args.key at front) (named c.args.key (at + length front) back))) long)
