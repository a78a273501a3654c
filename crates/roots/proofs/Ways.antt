-- Ways up: what is left of a line after some steps, and which nodes reach the root. Assumes nothing.
use Prim.Native.Nat.{ℕ, suc, ◌≤◌, ◌<◌}
use native.Mathlib.Omega.{arith}
use native.Mathlib.Decide.{ℕ_discrete, dec_lt}
use mathlib.Core.Path.{◌≡◌, sym, ap, ◌∙◌}
use mathlib.Core.Logic.{inl, inr, ◌≢◌}
use mathlib.Core.Bool.{true, false}
use mathlib.Core.List.{List}
use lib.ListN.{length, get_or}
use lib.Dec.{T}
use borrow.Author.Tests.{ne_eqb}
use Rattle.trees.specs.Lists.{any}
use Rattle.trees.specs.Trees.{none, up, is_root, climb, line, Below, here, step}
use Rattle.trees.specs.Sound.{SoundTree}
use Rattle.trees.specs.Rulings.{accepted, verdict, fine}
use Rattle.trees.specs.Rules.{parented, reaching}
use Rattle.trees.proofs.Bools.{T_true}
use Rattle.trees.proofs.Lines.{up_at, trans, proper, climb_in}
use Rattle.trees.proofs.Reach.{reaching_is}
use Rattle.trees.proofs.Rulings.{ruling_accepted, every_head}
use Rattle.trees.proofs.Soundness.{parented_is, is_root_top, root_is}
use Rattle.roots.specs.Promises.{parent_rules}
use Rattle.roots.specs.Ways.{Reaching, Entries}

-- what rule 2 leaves
module _ (t : ℕ) (par : List ℕ) (n : length par ≤ 2047) (e : verdict (parent_rules t par) ≡ accepted fine) where
  passed : (x : ℕ) → x < length par → T (parented par x)
  passed = every_head (ruling_accepted (parent_rules t par) fine fine e).0

  top_entry : (x : ℕ) → x < length par → length par ≤ up par x → (up par x ≡ none) × ((y : ℕ) → y < x → up par y ≢ none)
  top_entry x h u = elim (parented_is par x (passed x h)) [ inl l ↦ absurd (omega arith) | inr r ↦ r ]

  -- of two, the one with the higher number would be refused
  pub entries : Entries par
  entries =
      record {
        few = n;
        entry = λ x h u. (top_entry x h u).0;
        single = λ x y h l u v. elim (ℕ_discrete x y) [
          | yes q ↦ q
          | no m ↦ elim (dec_lt x y) [
            | yes o ↦ absurd ((top_entry y l v).1 x o (top_entry x h u).0)
            | no o ↦ absurd ((top_entry x h u).1 y (omega arith) (top_entry y l v).0)
          ]
        ];
      }

-- and what soundness says of the entries
pub sound_entries : {par tax : List ℕ} → SoundTree par tax → Entries par
sound_entries {par} S =
    let root : (x : ℕ) → x < length par → length par ≤ up par x → x ≡ S.root =
    (λ x h u. elim (ℕ_discrete x S.root) [ yes q ↦ q | no m ↦ absurd (omega (arith, S.others x h m)) ]) in
    record {
      few = S.few;
      entry = λ x h u. ap (up par) (root x h u) ∙ S.root_up;
      single = λ x y h l u v. root x h u ∙ sym (root y l v);
    }

module _ {par : List ℕ} (E : Entries par) where
  fits : length par ≤ none
  fits = omega (arith, E.few)

  -- the test of 38, both ways
  pub reaching_yes : {x : ℕ} → Reaching par x → reaching par x ≡ true
  reaching_yes {x} R = T_true {b = reaching par x} ((reaching_is par fits x).1 (R.root, is_root_top par R.root R.top, R.below))

  pub yes_reaching : {x : ℕ} → T (reaching par x) → Reaching par x
  yes_reaching {x} t = let k = (reaching_is par fits x).0 t in record { root = k.0; top = root_is par k.0 k.1; below = k.2 }

  -- a node without a parent is a root
  pub reaching_root : (x : ℕ) → x < length par → length par ≤ get_or par x 0 → Reaching par x
  reaching_root x h u = record { root = x; top = E.entry x h (rw (up_at par x h) u); below = here h }

-- one step more above a node
pub below_up : {par : List ℕ} {x y : ℕ} → y < length par → get_or par y 0 < length par → Below par y x → Below par (get_or par y 0) x
below_up {par} {x} {y} h u B = trans B (step h (rw (up_at par y h) (here u)))

-- below a node that reaches the root
pub reaching_below : {par : List ℕ} {a x : ℕ} → Below par a x → Reaching par a → Reaching par x
reaching_below B R = record { root = R.root; top = R.top; below = trans B R.below }

-- one step up, if there is one
pub reaching_up : {par : List ℕ} → Entries par → (x : ℕ) → x < length par → get_or par x 0 < length par → Reaching par x → Reaching par (get_or par x 0)
reaching_up {par} E x h u R =
    elim (proper R.below) [
      | inl e ↦ absurd (omega (arith, E.few, R.top, ap (up par) e, up_at par x h))
      | inr q ↦ record { root = R.root; top = R.top; below = rw (up_at par x h) at q }
    ]

-- ---- what is left of a line

pub way_start : (par : List ℕ) (x m : ℕ) → m ≡ length par → reaching par x ≡ any (is_root par) (climb par m x)
unfolding reaching line
way_start par x m e = rw e

pub way_turn : (par : List ℕ) (x j m : ℕ) → m ≡ suc j → x < length par → length par ≤ none → get_or par x 0 < length par
    → any (is_root par) (climb par m x) ≡ any (is_root par) (climb par j (get_or par x 0))
unfolding any is_root
way_turn par x j m e h f u =
    let q = up_at par x h in
    rw (e, climb_in par j x h, q, ne_eqb (get_or par x 0) none (omega arith))

pub way_end : (par : List ℕ) (x j : ℕ) → j ≡ 0 → any (is_root par) (climb par j x) ≡ false
unfolding any climb
way_end par x j e = rw e
