-- Rules 10 and 11, one after the other. Assumes nothing.
use Rattle.std.specs.Prelude.{Ok, Err}
use Prim.Native.Nat.{ℕ}
use mathlib.Core.Path.{◌≡◌, sym, ap, ◌∙◌}
use mathlib.Core.List.{List, [], ◌∷◌}
use lib.ListN.{length}
use Rattle.trees.specs.Rulings.{accepted, refused_by, Rule, each, verdict, fine}
use Rattle.trees.specs.Answers.{judged_of}
use Rattle.trees.specs.declared.Refusal.{Refusal}
use Rattle.trees.specs.Answers.{Judged}
use Rattle.trees.proofs.Rulings.{every_head, ruling_pass, ruling_stays, ruling_accepted, one_same}
use Rattle.sides.specs.Tests.{nested_by, parted_by}
use Rattle.sides.specs.Promises.{Nestable}
use Rattle.sides.specs.Visits.{Nested, parted_in}
use Rattle.sides.proofs.Tests.{parted_known}

module _ {sp gp pl lb : List ℕ} (N : Nestable sp gp pl lb) where
  abbrev rule10 : Rule
  rule10 = each 10 2 (length gp) (nested_by sp gp pl)

  abbrev rule11 : Rule
  rule11 = each 11 2 (length gp) (parted_by sp gp pl lb)

  -- refused by rule 10
  pub stopped_10 : (f : Refusal) → refused_by f ≡ verdict (rule10 ∷ []) → refused_by f ≡ verdict (rule10 ∷ rule11 ∷ [])
  stopped_10 f e = sym (ruling_stays (rule10 ∷ []) (rule11 ∷ []) fine fine f.number f.tree f.place (sym e))

  -- passed by rule 10: rule 11 by what is known of the children is what is left
  pub passed_10 : (r : Judged) (sides : List ℕ) → Nested sp gp pl sides r → r ≡ (Ok tt)
      → verdict (each 11 2 (length gp) (parted_in lb sides) ∷ []) ≡ verdict (rule10 ∷ rule11 ∷ [])
  passed_10 r sides D z =
      let a : judged_of r ≡ accepted fine = ap judged_of z in
      one_same 11 2 (length gp) (parted_in lb sides) (parted_by sp gp pl lb) (parted_known N.species.1 gp pl N.placed lb N.kinds sides (D.seen a))
      ∙ sym (ruling_pass rule10 (rule11 ∷ []) fine (every_head (ruling_accepted (rule10 ∷ []) fine fine (sym D.judged ∙ a)).0))
