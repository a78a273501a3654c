-- The words of a family: read back as they were written, and written back as they were read. Assumes nothing.
use Prim.Native.Nat.{ℕ, ◌+◌, ◌*◌, ◌≤◌}
use native.Mathlib.Omega.{arith}
use mathlib.Core.Path.{◌≡◌, refl, sym, ap, ◌∙◌}
use mathlib.Core.List.{List, ◌∷◌, ◌++◌, append_assoc}
use lib.ListN.{length, get_or, take, drop, length-append}
use Rattle.blocks.specs.Halves.{Under, low_high_lem, longs_of}
use Rattle.blocks.specs.Blocks.{run}
use Rattle.blocks.proofs.Halves.{length_halves, length_joined, joined_halves, halves_joined, under_take, under_drop, length_run}
use Rattle.families.specs.Families.{Family, tables_of, family_words, species_count, gene_count, word_count, family_of, Even}
use Rattle.families.proofs.Runs.{cut, run_add, run_three}

-- ---- how many words

module _ (f : Family) (e : Even f) where
  length_tables : length (tables_of f) ≡ 3 * length f.sp + 5 * length f.gp
  unfolding tables_of
  length_tables =
      simp length-append
      (omega (arith, length_halves 65536 f.st, length_halves 65536 f.gt, e.species, e.genes, e.places, e.labels))

  pub length_words : length (family_words f) ≡ word_count (length f.sp) (length f.gp)
  unfolding family_words
  length_words = omega (arith, length_tables)

-- ---- written and read back

-- a family is read back from its words, whatever stands behind them
module _ (f : Family) (z : List ℕ) (e : Even f) where
  w : List ℕ
  w = family_words f ++ z

  p : ℕ
  p = length f.sp

  q : ℕ
  q = length f.gp

  behind : drop 3 w ≡ f.sp ++ (low_high_lem f.st ++ (f.gp ++ (low_high_lem f.gt ++ (f.places ++ (f.labels ++ z)))))
  unfolding w family_words tables_of
  behind = simp append_assoc

  pub family_words_back : family_of (family_words f ++ z) ≡ f
  unfolding w p q family_words
  family_words_back =
      let (a, sa) = cut w f.sp _ 3 p (3 + p) behind refl refl in
      let (b, sb) = cut w (low_high_lem f.st) _ (3 + p) (2 * p) (3 + 3 * p) sa (length_halves 65536 f.st ∙ ap (λ n. 2 * n) e.species) (omega arith) in
      let (c, sc) = cut w f.gp _ (3 + 3 * p) q (3 + 3 * p + q) sb refl refl in
      let (d, sd) = cut w (low_high_lem f.gt) _ (3 + 3 * p + q) (2 * q) (3 + 3 * p + 3 * q) sc (length_halves 65536 f.gt ∙ ap (λ n. 2 * n) e.genes) (omega arith) in
      let (g, sg) = cut w f.places _ (3 + 3 * p + 3 * q) q (3 + 3 * p + 4 * q) sd e.places (omega arith) in
      let (h, sh) = cut w f.labels z (3 + 3 * p + 4 * q) q (3 + 3 * p + 5 * q) sg e.labels (omega arith) in
      rw (a, b, c, d, g, h, joined_halves 65536 f.st, joined_halves 65536 f.gt)

-- ---- read and written back

four : {a b c x y z : ℕ} {l n : List ℕ} → a ≡ x → b ≡ y → c ≡ z → l ≡ n → a ∷ b ∷ c ∷ l ≡ x ∷ y ∷ z ∷ n
four e f g h = cc

module _ (v : List ℕ) (room : word_count (species_count v) (gene_count v) ≤ length v) where
  abbrev m : ℕ
  m = species_count v

  abbrev k : ℕ
  k = gene_count v

  pub length_parents : length (family_of v).sp ≡ species_count v
  length_parents = length_run 3 m v (omega arith)

  pub length_genes : length (family_of v).gp ≡ gene_count v
  length_genes = length_run (3 + 3 * m) k v (omega arith)

  pub even_family : Even (family_of v)
  even_family =
      record {
        species = length_joined 65536 m _ (length_run (3 + m) (2 * m) v (omega arith)) ∙ sym length_parents;
        genes = length_joined 65536 k _ (length_run (3 + 3 * m + k) (2 * k) v (omega arith)) ∙ sym length_genes;
        places = length_run (3 + 3 * m + 3 * k) k v (omega arith) ∙ sym length_genes;
        labels = length_run (3 + 3 * m + 4 * k) k v (omega arith) ∙ sym length_genes;
      }

  module _ (u : Under 65536 v) where
    -- the taxa's words, joined and split again
    split : (i n : ℕ) → i + 2 * n ≤ length v → low_high_lem (longs_of (run i (2 * n) v)) ≡ run i (2 * n) v
    split i n h = halves_joined 65536 n (run i (2 * n) v) (length_run i (2 * n) v h) (under_take 65536 (2 * n) (drop i v) (under_drop 65536 i v u))

    tables_run : tables_of (family_of v) ≡ run 3 (3 * m + 5 * k) v
    unfolding tables_of
    tables_run =
        let n : 3 * m + 5 * k ≡ m + 2 * m + k + 2 * k + k + k = omega arith in
        rw (split (3 + m) m (omega arith), split (3 + 3 * m + k) k (omega arith), n)
        (ap (λ l. l ++ run (3 + 3 * m) k v ++ run (3 + 3 * m + k) (2 * k) v ++ run (3 + 3 * m + 3 * k) k v ++ run (3 + 3 * m + 4 * k) k v) (run_add v 3 m (2 * m) (3 + m) refl)
        ∙ ap (λ l. l ++ run (3 + 3 * m + k) (2 * k) v ++ run (3 + 3 * m + 3 * k) k v ++ run (3 + 3 * m + 4 * k) k v) (run_add v 3 (m + 2 * m) k (3 + 3 * m) (omega arith))
        ∙ ap (λ l. l ++ run (3 + 3 * m + 3 * k) k v ++ run (3 + 3 * m + 4 * k) k v) (run_add v 3 (m + 2 * m + k) (2 * k) (3 + 3 * m + k) (omega arith))
        ∙ ap (λ l. l ++ run (3 + 3 * m + 4 * k) k v) (run_add v 3 (m + 2 * m + k + 2 * k) k (3 + 3 * m + 3 * k) (omega arith))
        ∙ run_add v 3 (m + 2 * m + k + 2 * k + k) k (3 + 3 * m + 4 * k) (omega arith))

    pub words_family : get_or v 0 0 ≡ 1 → family_words (family_of v) ≡ take (word_count (species_count v) (gene_count v)) v
    unfolding family_words
    words_family e =
        let n : 3 + (3 * m + 5 * k) ≡ word_count m k = omega arith in
        four (sym e) length_parents length_genes tables_run
        ∙ run_three v (3 * m + 5 * k) (omega arith)
        ∙ ap (λ (n : ℕ). take n v) n
