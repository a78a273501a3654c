-- Tables compared: what a loop notes of the entries of a piece, the front of a table that is the same, and the tables of a tree node by node.
-- Assumes nothing.
use Prim.Native.Nat.{ℕ, ◌+◌, ◌*◌, ◌<◌, ◌≤◌}
use native.Mathlib.Omega.{arith}
use mathlib.Core.Path.{◌≡◌, refl, sym, ap, ◌∙◌}
use Rattle.std.proofs.Common.{false, not, ◌||◌, ◌++◌}
use Rattle.std.proofs.lemmas.List.{take_more}
use Rattle.words.specs.Entries.{EntryLaws}
use mathlib.Core.Bool.{Bool, true, ◌&&◌}
use mathlib.Core.List.{List, [], ◌∷◌}
use lib.ListN.{length, get_or, take, drop}
use lib.Seq.{take_all, take-add}
use lib.Dec.{eqb}
use borrow.Author.Tests.{eq-eqb}
use Rattle.trees.specs.Spots.{nowhere, lowest_spot}
use Rattle.trees.proofs.Lists.{lowest_none}
use Rattle.trees.proofs.Spots.{spot_none}
use Rattle.blocks.specs.Halves.{longs_of}
use Rattle.blocks.specs.Blocks.{run, word, content}
use Rattle.words.specs.Words.{offset, after, alike, agree, Comparable}
use Rattle.words.proofs.Tables.{word_read, long_read}
use Rattle.words.proofs.Fronts.{left, left_is, length_left, entries_left}
use Rattle.release.specs.Passing.{Starts}

-- ---- what a loop notes

-- the first k entries compared: nothing wrong was noted only if they are the same
pub record Compared {E : Type 0} (old new : List E) (wrong : Bool) (k : ℕ) : Type 0 where
  pub low : k ≤ length old
  pub long : length new ≡ length old
  pub same : wrong ≡ false → take k old ≡ take k new

module _ {E : Type 0} (old new : List E) where
  pub compared_none : length new ≡ length old → Compared old new false 0
  compared_none e = record { low = omega arith; long = e; same = λ z. refl }

  pub compared_more : (w d : Bool) (k : ℕ) (x : E) → Compared old new w k → k < length old → x ≡ get_or old k x → (d ≡ false → take 1 (drop k new) ≡ x ∷ []) → Compared old new (w || d) (k + 1)
  compared_more true d k x c h f g = record { low = omega arith; long = c.long; same = λ z. absurd (cc) }
  compared_more false d k x c h f g =
      record {
        low = omega arith;
        long = c.long;
        same = λ z. take_more old k x h ∙ ap (λ y. take k old ++ y ∷ []) (sym f) ∙ ap (λ l. l ++ x ∷ []) (c.same refl) ∙ sym (take-add k 1 new ∙ ap (λ l. take k new ++ l) (g z));
      }

  pub compared_end : (w : Bool) (k : ℕ) → Compared old new w k → length old ≤ k → not w ≡ true → old ≡ new
  compared_end true k c h e = absurd (cc)
  compared_end false k c h e = sym (take_all k old h) ∙ c.same refl ∙ take_all k new (omega (arith, c.long))

-- ---- the front of a table

module _ {E : Type 0} (new old : List E) where
  starts_some : (k r : ℕ) → Starts new old k → Starts (drop k new) (left k old) r → Starts new old (k + r)
  starts_some k r p q =
      let e : take r (drop k old) ≡ take r (drop k new) = rw (left_is k old) at q.is in
      record { low = omega (arith, p.low, q.low, length_left k old); is = rw (take-add k r old, take-add k r new, p.is, e) }

  pub starts_all : (k : ℕ) → Starts new old k → length old ≤ k → length new ≡ length old → old ≡ new
  starts_all k p h e = sym (take_all k old h) ∙ p.is ∙ take_all k new (omega arith)

-- one entry alone
pub starts_one : {E : Type 0} (new old : List E) (v x : E) → 0 < length old → take 1 new ≡ v ∷ [] → x ≡ get_or old 0 x → v ≡ x → Starts new old 1
starts_one new [] v x h e f g = absurd (omega arith)
starts_one new (y ∷ old) v x h e f g = record { low = omega arith; is = ap (λ z. z ∷ []) (sym f ∙ sym g) ∙ sym e }

pub starts_entries : {E : Type 0} {size : ℕ} {entries : List ℕ → List E} (laws : EntryLaws size entries) (s : List ℕ) (i : ℕ) (old : List E) (k r : ℕ)
    → Starts (entries (run i (size * length old) (content s))) old k → Starts (entries (run (i + size * k) (size * length (left k old)) (content s))) (left k old) r → Starts (entries (run i (size * length old) (content s))) old (k + r)
starts_entries {E} {size} {entries} laws s i old k r p q =
    starts_some (entries (run i (size * length old) (content s))) old k r p (rw (length_left k old, entries_left laws i (length old) k (content s)) at q)

-- ---- two tables that are the same

pub agree_all : (s : List ℕ) (i : ℕ) (c d : List ℕ) → length d ≡ length c → c ≡ run i (length c) (content s) → d ≡ longs_of (run (i + length c) (2 * length d) (content s)) → nowhere ≡ lowest_spot (agree (content s) i c d) (length c)
unfolding alike
agree_all s i c d n e f =
    let g : d ≡ longs_of (run (i + length c) (2 * length c) (content s)) = rw n at f in
    sym (spot_none _ (length c) (lowest_none (agree (content s) i c d) (length c) (λ v h. rw (← e, ← g, eq-eqb (get_or c v 0) (get_or c v 0) refl, eq-eqb (get_or d v 0) (get_or d v 0) refl) tt)))

-- ---- two tables compared

pub agree_at : (s : List ℕ) (i : ℕ) (c d : List ℕ) (v a b : ℕ) (r : Bool) → Comparable s i c d → v < length c → a ≡ offset (i + v) → b ≡ offset (i + length c + 2 * v) →
    r ≡ eqb (word s a) (get_or c v 0) && eqb (word s b + 65536 * word s (after b)) (get_or d v 0) → agree (content s) i c d v ≡ r
unfolding alike
agree_at s i c d v a b r h l e f g =
    let p = word_read s i (length c) v a (word s a) (record { room = omega (arith, h.within.room) }) l e refl in
    let q = long_read s (i + length c) (length c) v b (word s b + 65536 * word s (after b)) (record { room = omega (arith, h.within.room) }) l f refl in
    rw (← p, ← q) (sym g)
