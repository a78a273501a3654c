-- What opening an image answers, test by test as code makes them. Assumes nothing.
use Prim.Native.Nat.{ℕ, ◌+◌, ◌*◌, ◌/◌, ◌<◌, ◌≤◌}
use native.Mathlib.Omega.{arith}
use mathlib.Core.Path.{◌≡◌, refl, sym, ap, ◌∙◌}
use mathlib.Core.Logic.{inl, inr}
use mathlib.Core.Bool.{Bool, true, false}
use mathlib.Core.List.{List, [], ◌∷◌, ◌++◌, append_assoc}
use lib.ListN.{length, get_or, drop}
use lib.Dec.{eqb, leb}
use borrow.Author.Tests.{eq-eqb, ne_eqb, le-leb, lt-leb}
use Rattle.trees.specs.Lists.{lowest, pick}
use Rattle.trees.specs.Spots.{spot, nowhere, lowest_spot}
use Rattle.trees.specs.Rulings.{accepted, refused, Rule, each, ruling, number_of, tree_of, fine, verdict}
use Rattle.trees.specs.Rules.{species_rules}
use Rattle.trees.proofs.Bools.{test, true_T, clash}
use Rattle.trees.proofs.Rulings.{ruling_pass, ruling_fail, ruling_all, ruling_stays, ruling_accepted}
use Rattle.trees.proofs.Soundness.{species_accepted}
use Rattle.blocks.specs.Halves.{longs_of}
use Rattle.blocks.specs.Blocks.{run, count, content}
use Rattle.blocks.specs.Image.{fewest, blank, block_rules}
use Rattle.words.specs.Words.{alike, agree, Comparable}
use Rattle.families.specs.Families.{species_count, gene_count}
use Rattle.blocks.proofs.Blocks.{length_contents}
use Rattle.blocks.proofs.Image.{intact}
use Rattle.families.proofs.Opened.{framed_says, opened_is, words_room}
use Rattle.families.specs.Loading.{limit, in_size_lem, framed, form_rules, rack_rules, content_rules, open_rules}
use Rattle.opening.specs.Conditions.{Fitted, Opens}
use Rattle.blocks.proofs.Both.{and_false}

-- ---- 17

-- p and q are the words' counts, n the number of blocks
module _ (w : List ℕ) (n p q : ℕ) (e : p ≡ species_count w) (f : q ≡ gene_count w) where
  pub framed_species : in_size_lem p ≡ false → false ≡ framed n w
  unfolding framed
  framed_species h = rw (← e, h)

  pub framed_genes : in_size_lem q ≡ false → false ≡ framed n w
  unfolding framed
  framed_genes h = rw (← f, and_false (in_size_lem (species_count w)) (in_size_lem q) h)

  pub framed_blocks : in_size_lem p ≡ true → in_size_lem q ≡ true → (n ≡ (3 + 3 * p + 5 * q + 252) / 253 → ⊥) → false ≡ framed n w
  unfolding framed fewest
  framed_blocks a b h = rw (← e, ← f, a, b, ne_eqb n _ h)

  pub framed_rest : in_size_lem p ≡ true → in_size_lem q ≡ true → n ≡ (3 + 3 * p + 5 * q + 252) / 253 → blank (drop (3 + 3 * p + 5 * q) w) ≡ framed n w
  unfolding framed fewest
  framed_rest a b h = rw (← e, ← f, a, b, eq-eqb n _ h)

-- what 17 has passed can be compared with a rack of as many nodes
pub comparable : (sp st s : List ℕ) (p : ℕ) → framed (count s) (content s) ≡ true → p ≡ species_count (content s) → p ≡ length sp → length st ≡ length sp → Comparable s 3 sp st
comparable sp st s p f e h k =
    let r = words_room s (framed_says (count s) (content s) (true_T f)) in
    record { within = record { room = omega (arith, length_contents (count s) s (omega arith)) }; even = k }

-- ---- a rule of each node, by the spot where it is broken

module _ {A : Type 0} (n t k : ℕ) (ok : ℕ → Bool) (x : A) where
  spot_refuses : (v : ℕ) → spot v ≡ lowest_spot ok k → ruling (each n t k ok ∷ []) x ≡ refused n t v
  unfolding ruling pick lowest_spot
  spot_refuses v e =
      elim (test (eqb (lowest ok k) k)) [
        | inl h ↦ let f : spot v ≡ nowhere = rw h at e in clash (cc)
        | inr h ↦ let f : spot v ≡ spot (lowest ok k) = rw h at e in let g : v ≡ lowest ok k = cc in rw (h, g)
      ]

  nowhere_passes : nowhere ≡ lowest_spot ok k → ruling (each n t k ok ∷ []) x ≡ accepted x
  unfolding ruling pick lowest_spot
  nowhere_passes e =
      elim (test (eqb (lowest ok k) k)) [
        | inl h ↦ rw h
        | inr h ↦ let f : nowhere ≡ spot (lowest ok k) = rw h at e in clash (cc)
      ]

-- ---- 16 to 18

module _ {A : Type 0} (sp st s : List ℕ) (x : A) where
  pub refused_16 : (k : ℕ) → k ≡ get_or (content s) 0 0 → (k ≡ 1 → ⊥) → ruling (content_rules sp st s) x ≡ refused 16 0 0
  unfolding content_rules form_rules number_of tree_of
  refused_16 k e h = ruling_fail _ _ x 0 (refl, rw (← e) (ne_eqb k 1 h))

  module _ (k : ℕ) (e : k ≡ get_or (content s) 0 0) (h : k ≡ 1) where
    pub refused_17 : framed (count s) (content s) ≡ false → ruling (content_rules sp st s) x ≡ refused 17 0 0
    unfolding content_rules form_rules number_of tree_of
    refused_17 f = ruling_pass _ _ x (true_T (eq-eqb (get_or (content s) 0 0) 1 (sym e ∙ h))) ∙ ruling_fail _ _ x 0 (refl, f)

    module _ (f : framed (count s) (content s) ≡ true) where
      to_rack : ruling (content_rules sp st s) x ≡ ruling (rack_rules sp st (content s)) x
      unfolding content_rules form_rules
      to_rack = ruling_pass _ _ x (true_T (eq-eqb (get_or (content s) 0 0) 1 (sym e ∙ h))) ∙ ruling_pass _ _ x (true_T f)

      pub refused_count : (p : ℕ) → p ≡ species_count (content s) → (p ≡ length sp → ⊥) → ruling (content_rules sp st s) x ≡ refused 18 1 65535
      unfolding rack_rules number_of tree_of
      refused_count p a b = to_rack ∙ ruling_fail _ _ x 65535 (refl, rw (← a) (ne_eqb p (length sp) b))

      module _ (p : ℕ) (a : p ≡ species_count (content s)) (b : p ≡ length sp) where
        to_nodes : ruling (content_rules sp st s) x ≡ ruling (each 18 1 (length sp) (agree (content s) 3 sp st) ∷ []) x
        unfolding rack_rules
        to_nodes =
            let n : species_count (content s) ≡ length sp = sym a ∙ b in
            to_rack ∙ ruling_pass _ _ x (true_T (eq-eqb _ _ n)) ∙ ap (λ m. ruling (each 18 1 (length sp) (alike (run 3 m (content s)) (longs_of (run (3 + m) (2 * m) (content s))) sp st) ∷ []) x) n

        pub refused_node : (v : ℕ) → spot v ≡ lowest_spot (agree (content s) 3 sp st) (length sp) → ruling (content_rules sp st s) x ≡ refused 18 1 v
        refused_node v e = to_nodes ∙ spot_refuses 18 1 (length sp) (agree (content s) 3 sp st) x v e

        pub content_fine : nowhere ≡ lowest_spot (agree (content s) 3 sp st) (length sp) → ruling (content_rules sp st s) x ≡ accepted x
        content_fine e = to_nodes ∙ nowhere_passes 18 1 (length sp) (agree (content s) 3 sp st) x e

-- ---- the rack's rules, 13 to 15, and then those

-- what the content is judged by, once those have passed
pub fitted : (sp st s : List ℕ) (m n : ℕ) → verdict (species_rules sp st) ≡ accepted fine → ruling (block_rules limit s) m ≡ accepted n → Fitted sp st s
fitted sp st s m n e f =
    let i = intact limit s (ruling_accepted (block_rules limit s) m n f).0 in
    record { blocks = record { some = i.some; few = i.few }; even = ((species_accepted sp st).0 e).tree.even }

module _ {A : Type 0} (sp st s : List ℕ) (x : A) where
  pub open_rack : (n t v : ℕ) → verdict (species_rules sp st) ≡ refused n t v → ruling (open_rules sp st s) x ≡ refused n t v
  unfolding open_rules
  open_rack n t v e = simp append_assoc (ruling_stays (species_rules sp st) _ fine x n t v e)

  module _ (f : verdict (species_rules sp st) ≡ accepted fine) where
    past_rack : (rs : List Rule) → ruling (species_rules sp st ++ rs) x ≡ ruling rs x
    past_rack rs = ruling_all (species_rules sp st) rs x (ruling_accepted (species_rules sp st) fine fine f).0

    pub open_blocks : (m n t v : ℕ) → ruling (block_rules limit s) m ≡ refused n t v → ruling (open_rules sp st s) x ≡ refused n t v
    unfolding open_rules
    open_blocks m n t v e = simp append_assoc (past_rack _ ∙ ruling_stays (block_rules limit s) _ m x n t v e)

    pub open_content : (m n : ℕ) → ruling (block_rules limit s) m ≡ accepted n → ruling (open_rules sp st s) x ≡ ruling (content_rules sp st s) x
    unfolding open_rules
    open_content m n e = simp append_assoc (past_rack _ ∙ ruling_all (block_rules limit s) (content_rules sp st s) x (ruling_accepted (block_rules limit s) m n e).0)

-- ---- an image that opens

pub opens_here : (sp st s : List ℕ) (q : ℕ) → ruling (open_rules sp st s) (gene_count (content s)) ≡ accepted q → Opens sp st s q
opens_here sp st s q e = let (p, v) = ruling_accepted (open_rules sp st s) (gene_count (content s)) q e in record { opens = p; genes = sym v }

-- it has 2,047 gene nodes at most
pub opens_few : {sp st s : List ℕ} {q : ℕ} → Opens sp st s q → q ≤ 2047
opens_few {sp} {st} {s} o = omega (arith, ((opened_is sp st s).0 o.opens).frame.genes, o.genes)
