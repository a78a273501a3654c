-- What judging and loading a stored family answers and leaves, step by step. Assumes nothing.
use Prim.Native.Nat.{ℕ, ◌+◌, ◌*◌}
use native.Mathlib.Omega.{arith}
use mathlib.Core.Path.{◌≡◌, refl, sym, ap, subst, ◌∙◌}
use mathlib.Core.List.{List}
use lib.ListN.{length}
use Rattle.trees.specs.Tables.{Pair, pair}
use Rattle.trees.specs.Sound.{Sound}
use Rattle.trees.specs.Rulings.{Ruling, accepted, refused, ruling, fine, verdict}
use Rattle.trees.specs.Rules.{family_rules}
use Rattle.trees.proofs.Rulings.{ruling_all, ruling_stays, ruling_accepted, ruling_passes}
use Rattle.trees.proofs.Soundness.{family_sound}
use Rattle.histories.specs.Histories.{History, told, every_node}
use Rattle.histories.specs.Rules.{descent_rules, OfferCounts, offer_counts}
use Rattle.blocks.specs.Blocks.{count, content}
use Rattle.blocks.proofs.Blocks.{length_contents}
use Rattle.families.specs.Families.{Family, species_count, family_of}
use Rattle.families.specs.Loading.{Lent, stored_pair, stored_history, story_rules, contents_of, Loading}
use Rattle.families.proofs.Families.{length_genes, even_family}
use Rattle.families.proofs.Opened.{Opened, opened_is, opened_count, words_room}
use Rattle.families.proofs.Loaded.{stored_sized, refused_any}
use Rattle.loading.specs.Conditions.{GenesRoom, Tellable, Loadable}
use Rattle.loading.specs.Outcomes.{lent, genes_at, cleared_all, story_outcome}

-- ---- the gene rules, then the rules of descent

module _ {A : Type 0} (w : Pair) (h : History) (x : A) where
  pub story_trees : (n t v : ℕ) → verdict (family_rules w) ≡ refused n t v → ruling (story_rules w h) x ≡ refused n t v
  unfolding story_rules
  story_trees n t v e = ruling_stays (family_rules w) (descent_rules w every_node h) fine x n t v e

  pub story_descent : verdict (family_rules w) ≡ accepted fine → ruling (story_rules w h) x ≡ ruling (descent_rules w every_node h) x
  unfolding story_rules
  story_descent e = ruling_all (family_rules w) (descent_rules w every_node h) x (ruling_accepted (family_rules w) fine fine e).0

pub story_sound : (sp st : List ℕ) (t : Lent) → Tellable sp st t → verdict (family_rules (pair sp st t.gp t.gt)) ≡ accepted fine → Sound (pair sp st t.gp t.gt)
story_sound sp st t k e =
    let w = pair sp st t.gp t.gt in
    let g = (family_sound w k.sized).0 (ruling_accepted (family_rules w) fine fine e).0 in
    record { species = k.rack; genes = g.0; known = g.1 }

-- ---- a family loaded

-- the four tables of a family
abbrev pub tables_in : Family → Lent
tables_in f = lent f.gp f.gt f.places f.labels

module _ (sp st : List ℕ) (f : Family) where
  abbrev w : Pair
  w = stored_pair sp st f

  abbrev h : History
  h = stored_history f

  pub told_outcome : (c : OfferCounts) → ruling (story_rules w h) (offer_counts w h) ≡ accepted c
      → ◌≡◌ {A = Loading} (record { answer = accepted (record { species = length sp; genes = length f.gp; duplications = c.duplications; losses = c.losses }); tables = tables_in f }) (story_outcome sp st f)
  unfolding story_outcome offer_counts contents_of
  told_outcome c e =
      let (p, v) = ruling_accepted (story_rules w h) (offer_counts w h) c e in
      let a = ruling_passes (story_rules w h) (contents_of w h) p in
      rw (a, ← v)

  pub cleared_outcome : (n t v : ℕ) → ruling (story_rules w h) (offer_counts w h) ≡ refused n t v
      → ◌≡◌ {A = Loading} (record { answer = refused n t v; tables = cleared_all (tables_in f) }) (story_outcome sp st f)
  unfolding story_outcome
  cleared_outcome n t v e =
      let a = refused_any (story_rules w h) (offer_counts w h) (contents_of w h) n t v e in
      rw a

-- what an opened image's tables are, and that they can be judged
module _ (sp st s : List ℕ) (t : Lent) (k : Loadable sp st s t) where
  opened : Opened sp st s
  opened = (opened_is sp st s).0 k.opens

  pub tables_read : (r : Lent) → r ≡ genes_at (content s) (3 + 3 * length sp) (length t.gp) → r ≡ tables_in (family_of (content s))
  tables_read r e =
      let p : length sp ≡ species_count (content s) = sym (opened_count sp st s opened) in
      e ∙ ap (λ n. genes_at (content s) (3 + 3 * n) (length t.gp)) p ∙ ap (λ q. genes_at (content s) (3 + 3 * species_count (content s)) q) k.even.gp

  pub tables_tellable : Tellable sp st (tables_in (family_of (content s)))
  tables_tellable =
      let e = even_family (content s) (words_room s opened.frame) in
      record { rack = opened.rack; sized = stored_sized sp st s opened; even = record { gp = refl; gt = e.genes; places = e.places; labels = e.labels } }

  -- where the gene tables stand, and that they have room in the image
  pub tables_room : GenesRoom s (3 + 3 * length sp) t
  tables_room =
      let q = k.even.gp in
      let r = words_room s opened.frame in
      let p : length sp ≡ species_count (content s) = sym (opened_count sp st s opened) in
      record {
        even = record { gp = refl; gt = k.even.gt ∙ sym q; places = k.even.places ∙ sym q; labels = k.even.labels ∙ sym q };
        within = record { room = omega (arith, length_contents (count s) s (omega arith)) };
      }

  -- what is answered and left once the tables r have been read
  module _ (r : Lent) (e : r ≡ genes_at (content s) (3 + 3 * length sp) (length t.gp)) where
    abbrev u : Pair
    u = pair sp st r.gp r.gt

    abbrev l : History
    l = told r.places r.labels

    pub read_tellable : Tellable sp st r
    read_tellable = subst (Tellable sp st) (sym (tables_read r e)) tables_tellable

    -- the same judgement, of the stored family
    of_family : (x : Ruling OfferCounts) → ruling (story_rules u l) (offer_counts u l) ≡ x → ruling (story_rules (w sp st (family_of (content s))) (h sp st (family_of (content s)))) (offer_counts (w sp st (family_of (content s))) (h sp st (family_of (content s)))) ≡ x
    of_family x a =
        subst (λ (q : Lent). ruling (story_rules (pair sp st q.gp q.gt) (told q.places q.labels)) (offer_counts (pair sp st q.gp q.gt) (told q.places q.labels)) ≡ x) (tables_read r e) a

    pub told_load : (c : OfferCounts) → ruling (story_rules u l) (offer_counts u l) ≡ accepted c
        → ◌≡◌ {A = Loading} (record { answer = accepted (record { species = length sp; genes = length t.gp; duplications = c.duplications; losses = c.losses }); tables = r }) (story_outcome sp st (family_of (content s)))
    told_load c a =
        let q : length t.gp ≡ length (family_of (content s)).gp = k.even.gp ∙ sym (length_genes (content s) (words_room s opened.frame)) in
        rw (q, tables_read r e) (told_outcome sp st (family_of (content s)) c (of_family (accepted c) a))

    pub cleared_load : (n m v : ℕ) (z : Lent) → ruling (story_rules u l) (offer_counts u l) ≡ refused n m v → z ≡ cleared_all r
        → ◌≡◌ {A = Loading} (record { answer = refused n m v; tables = z }) (story_outcome sp st (family_of (content s)))
    cleared_load n m v z a b =
        ap (λ (q : Lent). record { answer = refused n m v; tables = q }) (b ∙ ap cleared_all (tables_read r e)) ∙ cleared_outcome sp st (family_of (content s)) n m v (of_family (refused n m v) a)
