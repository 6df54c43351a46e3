-- What a handle owns, and the content of an optional box.
--     handle_owns R p k   at null no content; else the box at p with its right to be freed, whose content is k
--     box_held m          the content of the box m, if there is one
use Rattle.std.specs.Prelude.{◌≡◌}
use base.Fml.{Fml, ftrue, fex}
use denote.RattleType.{RattleType}
use denote.RawPtr.{Ptr, block_ptr, null_ptr}
use mir.Syntax.{Ty}
use Rattle.std.specs.declared.alloc.Global.{Global}
use Rattle.std.specs.contracts.impls.GlobalAllocator.TheImpl.{ghosts}
use Rattle.std.specs.Box.Ownership.{box_owns}
use Rattle.std.specs.declared.boxed.Box.{Box}
use Rattle.birchagain_handle.specs.declared.raw_box.RawBox.{RawBox}
use Rattle.std.specs.declared.option.Option.{Option}
use Rattle.std.specs.declared.option.Option.TheVariants.{None, Some}

-- the heap of C: a handle to it takes no bytes, and each is like every other
abbrev pub heap : Global
heap = record { memory = record { seal = tt } }

abbrev pub frees : Global → Ty → Ptr → Fml
frees a = ghosts.dealloc_token a

module _ (R : RattleType) where
  abbrev pub handle_owns : Ptr → Option R.Denot → Fml
  handle_owns null_ptr k = fex (k ≡ None) (λ _. ftrue)
  handle_owns (block_ptr b o) k = fex R.Denot (λ x. fex (k ≡ Some x) (λ _. box_owns (frees heap) R (block_ptr b o) x))

module _ {X Z : Type 0} where
  abbrev pub box_held : Option (Box X Z) → Option X
  box_held None = None
  box_held (Some b) = Some b.value

  abbrev pub raw_box_held : Option (RawBox X Z) → Option X
  raw_box_held None = None
  raw_box_held (Some b) = Some b.value
