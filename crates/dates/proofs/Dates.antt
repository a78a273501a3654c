-- Dating by the tables of the least history: the climb to the nearest speciation. Assumes nothing.
use Prim.Native.Nat.{ℕ, ◌≤◌, ◌<◌}
use native.Mathlib.Omega.{arith}
use mathlib.Core.Path.{◌≡◌, sym, ap, ◌∙◌}
use mathlib.Core.Logic.{◌≢◌}
use mathlib.Core.List.{List}
use lib.ListN.{length, get_or}
use lib.Dec.{eqb}
use borrow.Author.Tests.{eq-eqb, ne_eqb}
use Rattle.trees.specs.Lists.{first}
use Rattle.trees.specs.Trees.{none, up, line}
use Rattle.trees.specs.Tables.{Pair}
use Rattle.trees.specs.Sound.{Treelike}
use Rattle.trees.proofs.Lists.{first_yes, first_no}
use Rattle.trees.proofs.Lines.{up_at, line_in, line_out}
use Rattle.trees.proofs.Sound.{rooted, trees}
use Rattle.histories.specs.Places.{place}
use Rattle.histories.specs.Histories.{label}
use Rattle.histories.specs.Dating.{not_duplication, from, between, latest, dated}
use Rattle.histories.proofs.Dating.{dated_not, dated_from, dated_between}
use Rattle.dates.specs.Answers.{Told}

-- the first speciation on the line of u
abbrev pub nearest : Pair → ℕ → ℕ
nearest w u = first (λ a. eqb (label w a) 1) (line w.gp u) none

pub line_shorter : {gp : List ℕ} → Treelike gp → (u : ℕ) → u < length gp → length (line gp (get_or gp u 0)) < length (line gp u)
line_shorter {gp} X u h = rw (line_in (rooted X.1).ground u h, up_at gp u h) (omega arith)

module _ {w : Pair} {gp p l : List ℕ} (X : Told w gp p l) where
  inside : (g : ℕ) → g < length gp → g < length w.gp
  inside g h = rw X.genes h

  place_at : (g : ℕ) → g < length gp → get_or p g 0 ≡ place w g
  place_at g h = X.places g h

  label_at : (g : ℕ) → g < length gp → get_or l g 0 ≡ label w g
  label_at g h = X.labels g h

  pub latest_start : (v : ℕ) → v < length gp → latest w v ≡ nearest w (get_or gp v 0)
  unfolding latest
  latest_start v h = rw (up_at w.gp v (inside v h), X.genes)

  pub nearest_turn : (u : ℕ) → u < length gp → get_or l u 0 ≢ 1 → nearest w u ≡ nearest w (get_or gp u 0)
  nearest_turn u h n =
      let i = inside u h in
      let e : up w.gp u ≡ get_or gp u 0 = up_at w.gp u i ∙ ap (λ x. get_or x u 0) X.genes in
      rw (line_in (trees X.sound).g.ground u i, e)
      (first_no (λ a. eqb (label w a) 1) u (line w.gp (get_or gp u 0)) none (ne_eqb (label w u) 1 (λ z. n (label_at u h ∙ z))))

  nearest_here : (u : ℕ) → u < length gp → get_or l u 0 ≡ 1 → nearest w u ≡ u
  nearest_here u h t =
      let i = inside u h in
      rw (line_in (trees X.sound).g.ground u i)
      (first_yes (λ a. eqb (label w a) 1) u (line w.gp (up w.gp u)) none (eq-eqb (label w u) 1 (sym (label_at u h) ∙ t)))

  nearest_none : (u : ℕ) → length gp ≤ u → nearest w u ≡ none
  unfolding first
  nearest_none u h = rw (line_out w.gp u (rw X.genes h))

  pub date_not : (v : ℕ) → v < length gp → get_or l v 0 ≢ 2 → not_duplication ≡ dated w v
  date_not v h n = sym (dated_not X.sound v (λ e. n (label_at v h ∙ e)))

  pub date_between : (v u : ℕ) → v < length gp → u < length gp → get_or l v 0 ≡ 2 → latest w v ≡ nearest w u → get_or l u 0 ≡ 1 → between (get_or p v 0) (get_or p u 0) ≡ dated w v
  date_between v u h k t e s =
      let q : latest w v ≡ u = e ∙ nearest_here u k s in
      sym (dated_between X.sound v (sym (label_at v h) ∙ t) (rw q (inside u k)) ∙ rw (q, place_at v h, place_at u k))

  pub date_from : (v u : ℕ) → v < length gp → length gp ≤ u → get_or l v 0 ≡ 2 → latest w v ≡ nearest w u → from (get_or p v 0) ≡ dated w v
  date_from v u h k t e = sym (dated_from X.sound v (sym (label_at v h) ∙ t) (e ∙ nearest_none u k) ∙ rw (place_at v h))

-- a speciation on the way up, where the least history's tables are told
pub dated_here : (gp p l : List ℕ) (v u : ℕ) → v < length gp → u < length gp → get_or l v 0 ≡ 2 → ((w : Pair) → Told w gp p l → latest w v ≡ nearest w u) → get_or l u 0 ≡ 1 → (w : Pair) → Told w gp p l → between (get_or p v 0) (get_or p u 0) ≡ dated w v
dated_here gp p l v u h k t e s w X = date_between X v u h k t (e w X) s
