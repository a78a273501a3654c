-- What the rules of a load say: which images open on a rack, and which of those load. Assumes nothing.
use Prim.Native.Nat.{ℕ, ◌<◌, ◌≤◌}
use native.Mathlib.Omega.{arith}
use mathlib.Core.Path.{◌≡◌}
use mathlib.Core.Logic.{◌↔◌}
use mathlib.Core.Bool.{◌&&◌}
use mathlib.Core.List.{List, ◌++◌}
use lib.ListN.{length, get_or}
use lib.Seq.{ext_get_or}
use lib.Dec.{T, eqb, leb, eqb→eq, leb→le, le→leb, eqb_refl}
use borrow.Author.Tests.{eq-eqb}
use Rattle.trees.specs.Sound.{SoundSpecies}
use Rattle.trees.specs.Rulings.{Passes, Every, done, and}
use Rattle.trees.specs.Rules.{species_rules}
use Rattle.trees.proofs.Bools.{and_both, and_left, and_right, true_T}
use Rattle.trees.proofs.Rulings.{every_head, every_tail, every_join, every_left, every_right}
use Rattle.trees.proofs.Soundness.{species_sound}
use Rattle.blocks.specs.Blocks.{count, content}
use Rattle.blocks.specs.Image.{fewest, block_rules}
use Rattle.blocks.proofs.Blocks.{length_contents}
use Rattle.blocks.proofs.Image.{Intact, intact, intact_passes, fewest_holds}
use Rattle.words.specs.Words.{alike}
use Rattle.families.specs.Families.{species_count, gene_count, word_count}
use Rattle.families.specs.Loading.{limit, in_size_lem, framed, form_rules, rack_rules, content_rules, open_rules}

-- ---- 17

pub in_size_is : (k : ℕ) → T (in_size_lem k) ↔ ((1 ≤ k) × (k ≤ 2047))
unfolding in_size_lem
in_size_is k = (
  (λ t. (leb→le 1 k (and_left (leb 1 k) (leb k 2047) t), leb→le k 2047 (and_right (leb 1 k) (leb k 2047) t))),
  (λ h. and_both (leb 1 k) (leb k 2047) (le→leb 1 k h.0) (le→leb k 2047 h.1)),
)

-- the counts and the number of blocks; what stands behind the words is a matter of its own
pub record Framed (n : ℕ) (w : List ℕ) : Type 0 where
  pub species : (1 ≤ species_count w) × (species_count w ≤ 2047)
  pub genes : (1 ≤ gene_count w) × (gene_count w ≤ 2047)
  pub blocks : n ≡ fewest (word_count (species_count w) (gene_count w))

pub framed_says : (n : ℕ) (w : List ℕ) → T (framed n w) → Framed n w
unfolding framed
framed_says n w t =
    let a = in_size_lem (species_count w) in
    let b = in_size_lem (gene_count w) in
    let l = and_left (a && b) _ t in
    let r = and_left (eqb n (fewest (word_count (species_count w) (gene_count w)))) _ (and_right (a && b) _ t) in
    record { species = (in_size_is _).0 (and_left a b l); genes = (in_size_is _).0 (and_right a b l); blocks = eqb→eq n _ r }

-- ---- 18

-- two pairs of tables that agree at every node are one
module _ (a b c d : List ℕ) (m : length a ≡ length c) (n : length b ≡ length d) (k : length d ≡ length c) where
  pub alike_is : ((v : ℕ) → v < length c → T (alike a b c d v)) ↔ ((a ≡ c) × (b ≡ d))
  unfolding alike
  alike_is = (
    (λ f. (
      ext_get_or 0 a c m (λ v h. eqb→eq _ _ (and_left (eqb (get_or a v 0) (get_or c v 0)) (eqb (get_or b v 0) (get_or d v 0)) (f v (omega arith)))),
      ext_get_or 0 b d n (λ v h. eqb→eq _ _ (and_right (eqb (get_or a v 0) (get_or c v 0)) (eqb (get_or b v 0) (get_or d v 0)) (f v (omega arith)))),
    )),
    (λ e v h. rw (e.0, e.1) (and_both (eqb (get_or c v 0) (get_or c v 0)) (eqb (get_or d v 0) (get_or d v 0)) (eqb_refl (get_or c v 0)) (eqb_refl (get_or d v 0)))),
  )

-- ---- all that needs no lent table

-- 17 and 18 are kept as they were tested: what they say of the bytes and of the release is what the theorems show
pub record Opened (sp st s : List ℕ) : Type 0 where
  pub rack : SoundSpecies sp st
  pub intact : Intact limit s
  pub form : get_or (content s) 0 0 ≡ 1
  pub framed : T (framed (count s) (content s))
  pub frame : Framed (count s) (content s)
  pub release : Every Passes (rack_rules sp st (content s))

-- the words of the family are there
pub words_room : (s : List ℕ) → Framed (count s) (content s) → word_count (species_count (content s)) (gene_count (content s)) ≤ length (content s)
words_room s f = rw (length_contents (count s) s (omega arith)) (rw (← f.blocks) at (fewest_holds (word_count (species_count (content s)) (gene_count (content s)))))

module _ (sp st s : List ℕ) where
  pub opened_is : Every Passes (open_rules sp st s) ↔ Opened sp st s
  unfolding open_rules content_rules form_rules
  opened_is =
      let a = species_rules sp st in
      let b = block_rules limit s in
      let c = form_rules (count s) (content s) in
      let d = rack_rules sp st (content s) in (
        (λ e.
            let ab = every_left (a ++ b) (c ++ d) e in
            let cd = every_right (a ++ b) (c ++ d) e in
            let form = every_left c d cd in
            let f = every_head (every_tail form) in
            record {
              rack = (species_sound sp st).0 (every_left a b ab);
              intact = intact limit s (every_right a b ab);
              form = eqb→eq _ _ (every_head form);
              framed = f;
              frame = framed_says (count s) (content s) f;
              release = every_right c d cd;
            }),
        (λ o.
            every_join (a ++ b) (c ++ d)
            (every_join a b ((species_sound sp st).1 o.rack) (intact_passes limit s o.intact))
            (every_join c d (and (true_T (eq-eqb _ _ o.form)) (and o.framed done)) o.release)),
      )

  -- the rack has as many nodes as the image has species nodes
  pub opened_count : Opened sp st s → species_count (content s) ≡ length sp
  unfolding rack_rules
  opened_count o = eqb→eq _ _ (every_head o.release)
