-- How long the text of a sound pair can be: a tree of n nodes has (n - 1) / 2 inner nodes, whose taxa are a single 0.
-- Assumes nothing.
use Prim.Native.Nat.{ℕ, zero, suc, ◌+◌, ◌*◌, ◌^◌, ◌≤◌, ◌<◌}
use native.Mathlib.Omega.{arith}
use native.Mathlib.Nat.{mul-suc, zero-add}
use mathlib.Core.Path.{◌≡◌}
use mathlib.Core.Logic.{inl, inr, ◌≢◌}
use mathlib.Core.Bool.{Bool, not}
use mathlib.Core.List.{List, [], ◌∷◌, ◌++◌}
use lib.ListN.{length, get_or}
use Rattle.trees.specs.Lists.{range, total, one}
use Rattle.trees.specs.Trees.{nodes, is_leaf}
use Rattle.trees.specs.Tables.{taxon, Pair}
use Rattle.trees.specs.Sound.{SoundTree, Sound}
use Rattle.trees.proofs.Bools.{T_true}
use Rattle.trees.proofs.Lines.{up_at}
use Rattle.trees.proofs.Kids.{Rooted}
use Rattle.trees.proofs.Sound.{trees, is_leaf_lem, not_leaf}
use Rattle.trees.proofs.Shape.{inners, inner_count}
use Rattle.printing.specs.Written.{numbers_of}
use Rattle.printing.proofs.Decimal.{decimal_few}
use Rattle.printing.proofs.Written.{cell}

-- ---- sums over tables

total_append : (f : ℕ → ℕ) (a b : List ℕ) → total f (a ++ b) ≡ total f a + total f b
unfolding total
total_append f [] b = omega arith
total_append f (x ∷ a) b = omega (arith, total_append f a b)

total_few : (f : ℕ → ℕ) (c : ℕ) (l : List ℕ) → ((i : ℕ) → i < length l → f (get_or l i 0) ≤ c) → total f l ≤ c * length l
unfolding total
total_few f c [] h = omega arith
total_few f c (x ∷ l) h = omega (arith, h 0 (omega arith), total_few f c l (λ i z. h (suc i) (omega arith)), mul-suc c (length l))

-- but for one entry, with one more
total_but : (f : ℕ → ℕ) (c r : ℕ) (l : List ℕ) → r < length l → f (get_or l r 0) ≤ c + 1 → ((i : ℕ) → i < length l → i ≢ r → f (get_or l i 0) ≤ c)
    → total f l ≤ c * length l + 1
unfolding total
total_but f c r [] b m h = absurd (omega arith)
total_but f c zero (x ∷ l) b m h = omega (arith, total_few f c l (λ i z. h (suc i) (omega arith) (omega arith)), mul-suc c (length l))
total_but f c (suc r) (x ∷ l) b m h =
    omega (
      arith,
      h 0 (omega arith) (omega arith),
      total_but f c r l (omega arith) m (λ i z n. h (suc i) (omega arith) (λ e. n (omega arith))),
      mul-suc c (length l),
    )

-- with nine for each place of the table that passes a test
total_nine : (f : ℕ → ℕ) (b : ℕ → Bool) (c k : ℕ) (l : List ℕ) → ((i : ℕ) → i < length l → f (get_or l i 0) + 9 * one (b (k + i)) ≤ c)
    → total f l + 9 * total (λ i. one (b i)) (range k (length l)) ≤ c * length l
unfolding total range
total_nine f b c k [] h = omega arith
total_nine f b c k (x ∷ l) h =
    let e : k + 0 ≡ k = omega arith in
    omega (
      arith,
      rw e at (h 0 (omega arith)),
      total_nine f b c (suc k) l (λ i z. let s : suc k + i ≡ k + suc i = omega arith in rw s (h (suc i) (omega arith))),
      mul-suc c (length l),
    )

-- ---- the numbers of a tree

cell_few : (k n : ℕ) → n < 10 ^ suc k → cell n ≤ k + 2
unfolding cell
cell_few k n h = omega (arith, decimal_few k n h)

-- the root's entry has five digits, and every other is below 2,047
parents_length : (par tax : List ℕ) → SoundTree par tax → total cell par ≤ 5 * length par + 1
parents_length par tax S =
    let r = S.root in
    total_but cell 5 r par S.root_in (cell_few 4 (get_or par r 0) (omega (arith, S.root_up, up_at par r S.root_in)))
    (λ i l n. cell_few 3 (get_or par i 0) (omega (arith, S.others i l n, up_at par i l, S.few)))

-- a leaf's taxon has at most ten digits, an inner node's is 0
taxa_length : (par tax : List ℕ) → SoundTree par tax → ((i : ℕ) → i < length tax → taxon tax i < 2 ^ 32) → total cell tax + 9 * inners par ≤ 11 * length tax
unfolding nodes one
taxa_length par tax S small =
    let even : length tax ≡ length par = S.even in
    let h : (i : ℕ) → i < length tax → cell (taxon tax i) + 9 * one (not (is_leaf par i)) ≤ 11 = (λ i l.
    elim (S.two i (omega arith)) [
      | inl e ↦ rw (T_true {b = is_leaf par i} (is_leaf_lem par i e)) (omega (arith, cell_few 9 (taxon tax i) (omega (arith, small i l))))
      | inr e ↦ rw (not_leaf par i e, S.inner_tax i (omega arith) e) (omega (arith, cell_few 0 0 (omega arith)))
    ]) in
    rw (← even) (total_nine cell (λ i. not (is_leaf par i)) 11 0 tax (λ i l. rw (zero-add i) (h i l)))

-- a gene taxon is a species taxon, or 0
pub gene_taxa_small : {w : Pair} → Sound w → ((i : ℕ) → i < length w.st → taxon w.st i < 2 ^ 32) → (i : ℕ) → i < length w.gt → taxon w.gt i < 2 ^ 32
gene_taxa_small {w} S small i l =
    let z : i < length w.gp = omega (arith, S.genes.even) in
    elim (S.genes.two i z) [
      | inl e ↦ let k = S.known i z e in rw k.3 at (small k.0 (omega (arith, k.1, S.species.tree.even)))
      | inr e ↦ rw (S.genes.inner_tax i z e) (omega arith)
    ]

tree_length : (par tax : List ℕ) → SoundTree par tax → Rooted par → ((i : ℕ) → i < length tax → taxon tax i < 2 ^ 32) → total cell (par ++ tax) ≤ 23546
tree_length par tax S R small =
    omega (
      arith,
      total_append cell par tax,
      parents_length par tax S,
      taxa_length par tax S small,
      inner_count R S.two,
      S.even,
      S.few,
    )

-- ---- a sound pair

pub numbers_length : {w : Pair} → Sound w → ((i : ℕ) → i < length w.st → taxon w.st i < 2 ^ 32) → total cell (numbers_of w) ≤ 47102
unfolding numbers_of total
numbers_length {w} S small =
    omega (
      arith,
      cell_few 3 (length w.sp) (omega (arith, S.species.tree.few)),
      cell_few 3 (length w.gp) (omega (arith, S.genes.few)),
      total_append cell (w.sp ++ w.st) (w.gp ++ w.gt),
      tree_length w.sp w.st S.species.tree (trees S).s small,
      tree_length w.gp w.gt S.genes (trees S).g (gene_taxa_small S small),
    )
