-- What a ruling says: accepted exactly if every rule passes; refused by the first that fails, at its lowest node. Assumes nothing.
use Prim.Native.Nat.{ℕ, ◌≤◌, ◌<◌}
use native.Mathlib.Omega.{arith}
use mathlib.Core.Path.{◌≡◌, refl, sym, ap, ◌∙◌}
use mathlib.Core.Logic.{◌⊎◌, inl, inr, ◌↔◌}
use mathlib.Core.Bool.{Bool, false}
use mathlib.Core.List.{List, [], ◌∷◌, ◌++◌}
use lib.Dec.{T}
use borrow.Author.Tests.{eq-eqb, ne_eqb}
use Rattle.trees.specs.Lists.{lowest, pick}
use Rattle.trees.specs.Rulings.{Ruling, accepted, refused, refused_by, Rule, whole, each, ruling, fine, verdict, number_of, tree_of, Passes, Fails, Every, done, and}
use Rattle.trees.specs.declared.Refusal.{Refusal}
use Rattle.trees.proofs.Bools.{test, T_true, true_T, clash}
use Rattle.trees.proofs.Lists.{lowest_is, lowest_none, lowest_cases, lowest_same}

-- rules joined
pub every_join : {P : Rule → Type 0} (rs ss : List Rule) → Every P rs → Every P ss → Every P (rs ++ ss)
every_join [] ss done q = q
every_join (r ∷ rs) ss (and p ps) q = and p (every_join rs ss ps q)

pub every_left : {P : Rule → Type 0} (rs ss : List Rule) → Every P (rs ++ ss) → Every P rs
every_left [] ss q = done
every_left (r ∷ rs) ss (and p q) = and p (every_left rs ss q)

pub every_right : {P : Rule → Type 0} (rs ss : List Rule) → Every P (rs ++ ss) → Every P ss
every_right [] ss q = q
every_right (r ∷ rs) ss (and p q) = every_right rs ss q

pub every_head : {P : Rule → Type 0} {r : Rule} {rs : List Rule} → Every P (r ∷ rs) → P r
every_head (and p q) = p

pub every_tail : {P : Rule → Type 0} {r : Rule} {rs : List Rule} → Every P (r ∷ rs) → Every P rs
every_tail (and p q) = q

-- either a rule passes, or there is the one place at which it is refused
pub rule_cases : (r : Rule) → Passes r ⊎ ((v : ℕ) × Fails r v)
rule_cases (whole n t v b) = elim (test b) [ inl e ↦ inl (true_T e) | inr e ↦ inr (v, (refl, e)) ]
rule_cases (each n t k ok) = elim (lowest_cases ok k) [ inl r ↦ inr (lowest ok k, (r.0, r.1, r.2)) | inr r ↦ inl r.1 ]

-- one refusal, read at another kind of answer
again : {A B : Type 0} {n m t u v w : ℕ} → ◌≡◌ {A = Ruling A} (refused n t v) (refused m u w) → (b : B) → ◌≡◌ {A = Ruling B} (refused n t v) (refused m u w)
again {n = n} {m = m} {t = t} {u = u} {v = v} {w = w} q b =
    let x : n ≡ m = cc in
    let y : t ≡ u = cc in
    let z : v ≡ w = cc in
    rw (x, y, z)

f_is : {A : Type 0} (n m t u v w : ℕ) (a : A) → ◌≡◌ {A = Ruling A} (refused n t v) (refused m u w) → v ≡ w
f_is n m t u v w a q = cc

-- a search that found a node, and one that found none
pub each_fails : (n t k : ℕ) (ok : ℕ → Bool) (v : ℕ) → v ≡ lowest ok k → v < k → Fails (each n t k ok) v
each_fails n t k ok v e l = elim (lowest_cases ok k) [ inl r ↦ rw e r | inr r ↦ absurd (omega (arith, r.0)) ]

pub each_passes : (n t k : ℕ) (ok : ℕ → Bool) (v : ℕ) → v ≡ lowest ok k → k ≤ v → Passes (each n t k ok)
each_passes n t k ok v e l = elim (lowest_cases ok k) [ inl r ↦ absurd (omega (arith, r.0)) | inr r ↦ r.1 ]

pub ruling_pass : {A : Type 0} (r : Rule) (rs : List Rule) (a : A) → Passes r → ruling (r ∷ rs) a ≡ ruling rs a
unfolding ruling pick
ruling_pass (whole n t v b) rs a p = rw (T_true {b = b} p)
ruling_pass (each n t k ok) rs a p = rw (eq-eqb (lowest ok k) k (lowest_none ok k p))

pub ruling_fail : {A : Type 0} (r : Rule) (rs : List Rule) (a : A) (v : ℕ) → Fails r v → ruling (r ∷ rs) a ≡ refused (number_of r) (tree_of r) v
unfolding ruling pick number_of tree_of
ruling_fail (whole n t w b) rs a v f = rw (f.1, f.0)
ruling_fail (each n t k ok) rs a v f =
    let e : lowest ok k ≡ v = lowest_is ok k v f.0 f.1 f.2 in
    rw (ne_eqb (lowest ok k) k (omega (arith, f.0)), e)

-- a rule by itself: refused at its lowest node, or passed
pub one_refused : (n t k : ℕ) (ok : ℕ → Bool) (v : ℕ) → v < k → ok v ≡ false → ((i : ℕ) → i < v → T (ok i)) → verdict (each n t k ok ∷ []) ≡ refused n t v
unfolding number_of tree_of
one_refused n t k ok v l e f = ruling_fail (each n t k ok) [] fine v (l, e, f)

pub one_passed : (n t k : ℕ) (ok : ℕ → Bool) → ((i : ℕ) → i < k → T (ok i)) → verdict (each n t k ok ∷ []) ≡ accepted fine
unfolding ruling
one_passed n t k ok f = ruling_pass (each n t k ok) [] fine f

-- what is accepted is not refused
pub refused_not : {A B : Type 0} {a : A} {n t v : ℕ} → accepted a ≡ refused n t v → B
refused_not e = clash (cc)

-- two tests that agree at every node make one rule
pub one_same : (n t k : ℕ) (ok ok' : ℕ → Bool) → ((i : ℕ) → i < k → ok i ≡ ok' i) → verdict (each n t k ok ∷ []) ≡ verdict (each n t k ok' ∷ [])
unfolding ruling
one_same n t k ok ok' f = rw (lowest_same ok ok' k f)

-- rules that all pass can be left out
pub ruling_all : {A : Type 0} (rs ss : List Rule) (a : A) → Every Passes rs → ruling (rs ++ ss) a ≡ ruling ss a
ruling_all [] ss a done = refl
ruling_all (r ∷ rs) ss a (and p ps) = ruling_pass r (rs ++ ss) a p ∙ ruling_all rs ss a ps

-- a refusal stays, whatever rules follow
pub ruling_stays : {A B : Type 0} (rs ss : List Rule) (a : A) (b : B) (n t v : ℕ) → ruling rs a ≡ refused n t v → ruling (rs ++ ss) b ≡ refused n t v
unfolding ruling
ruling_stays [] ss a b n t v e = clash (cc)
ruling_stays (r ∷ rs) ss a b n t v e =
    elim (rule_cases r) [
      | inl p ↦ ruling_pass r (rs ++ ss) b p ∙ ruling_stays rs ss a b n t v (sym (ruling_pass r rs a p) ∙ e)
      | inr f ↦ let q = sym (ruling_fail r rs a f.0 f.1) ∙ e in ruling_fail r (rs ++ ss) b f.0 f.1 ∙ again q b
    ]

-- accepted: every rule passes, and the value is the one handed in
pub ruling_accepted : {A : Type 0} (rs : List Rule) (a b : A) → ruling rs a ≡ accepted b → Every Passes rs × (a ≡ b)
unfolding ruling
ruling_accepted [] a b e = (done, cc)
ruling_accepted (r ∷ rs) a b e =
    elim (rule_cases r) [
      | inl p ↦ let k = ruling_accepted rs a b (sym (ruling_pass r rs a p) ∙ e) in (and p k.0, k.1)
      | inr f ↦ let q = sym (ruling_fail r rs a f.0 f.1) ∙ e in clash (cc)
    ]

-- what is left to judge once the rules before have passed
pub verdict_left : (rs ss : List Rule) → verdict rs ≡ accepted fine → verdict (rs ++ ss) ≡ verdict ss
verdict_left rs ss e = ruling_all rs ss fine (ruling_accepted rs fine fine e).0

-- if every rule passes, it is accepted
pub ruling_passes : {A : Type 0} (rs : List Rule) (a : A) → Every Passes rs → ruling rs a ≡ accepted a
unfolding ruling
ruling_passes [] a done = refl
ruling_passes (r ∷ rs) a (and p ps) = ruling_pass r rs a p ∙ ruling_passes rs a ps

-- accepted exactly if every rule passes and the value is that one
pub ruling_is : {A : Type 0} (rs : List Rule) (a b : A) → (ruling rs a ≡ accepted b) ↔ (Every Passes rs × (a ≡ b))
ruling_is rs a b = (ruling_accepted rs a b, λ p. ruling_passes rs a p.0 ∙ ap accepted p.1)

-- refused: some rule fails at that place, has that number and tree, and every rule before it passes
pub record Broken (rs : List Rule) (n t v : ℕ) : Type 0 where
  pub before : List Rule
  pub rule : Rule
  pub after : List Rule
  pub order : rs ≡ before ++ rule ∷ after
  pub number : number_of rule ≡ n
  pub tree : tree_of rule ≡ t
  pub passed : Every Passes before
  pub fails : Fails rule v

pub ruling_refused : {A : Type 0} (rs : List Rule) (a : A) (n t v : ℕ) → ruling rs a ≡ refused n t v → Broken rs n t v
unfolding ruling
ruling_refused [] a n t v e = clash (cc)
ruling_refused (r ∷ rs) a n t v e =
    elim (rule_cases r) [
      | inl p ↦
          let k = ruling_refused rs a n t v (sym (ruling_pass r rs a p) ∙ e) in
          record { before = r ∷ k.before; rule = k.rule; after = k.after; order = ap (λ l. r ∷ l) k.order; number = k.number; tree = k.tree; passed = and p k.passed; fails = k.fails }
      | inr f ↦
          let q = sym (ruling_fail r rs a f.0 f.1) ∙ e in
          record { before = []; rule = r; after = rs; order = refl; number = cc; tree = cc; passed = done; fails = rw (f_is (number_of r) n (tree_of r) t f.0 v a q) at f.1 }
    ]

-- a refusal handed back is fixed by its number, tree and place
pub refusal_one : {A : Type 0} (r s : Refusal) → ◌≡◌ {A = Ruling A} (refused_by r) (refused_by s) → r ≡ s
refusal_one r s e =
    let make : ℕ → ℕ → ℕ → Refusal = (λ n t v. record { number = n; tree = t; place = v }) in
    let x : r.number ≡ s.number = cc in
    let y : r.tree ≡ s.tree = cc in
    let z : r.place ≡ s.place = cc in
    ap (λ n. make n r.tree r.place) x ∙ ap (λ t. make s.number t r.place) y ∙ ap (λ v. make s.number s.tree v) z
