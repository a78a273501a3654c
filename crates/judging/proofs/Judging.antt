-- An image judged with no table lent: the rules of the stored family, and that it is judged as it is loaded. Assumes nothing.
use Prim.Native.Nat.{ℕ, ◌+◌, ◌*◌}
use mathlib.Core.Path.{◌≡◌, refl, sym, ap, ◌∙◌}
use mathlib.Core.Bool.{Bool, true, false}
use mathlib.Core.List.{List}
use lib.ListN.{length}
use Rattle.trees.specs.Rulings.{Ruling, accepted, refused, Rule, ruling, Fine, fine, verdict, Passes, Every}
use Rattle.trees.proofs.Rulings.{ruling_all, ruling_stays, ruling_passes, ruling_accepted}
use Rattle.blocks.specs.Blocks.{content}
use Rattle.families.specs.Families.{gene_count, family_of}
use Rattle.families.specs.Loading.{Lent, lends, open_rules, stored_pair, stored_history, contents_of, load}
use Rattle.loading.specs.Conditions.{Loadable}
use Rattle.loading.specs.Outcomes.{genes_at}
use Rattle.families.proofs.Loaded.{refused_any}
use Rattle.loading.proofs.Stories.{tables_read}
use Rattle.loading.proofs.Loads.{past_entry, load_closed}
use Rattle.judging.specs.Judging.{table_rules, stored_rules, image_rules, plain}

-- the rules of the tables that were read are those of the stored family
pub read_rules : (sp st s : List ℕ) (t : Lent) → Loadable sp st s t → (r : Lent) → r ≡ genes_at (content s) (3 + 3 * length sp) (length t.gp) → table_rules sp st r ≡ stored_rules sp st s
read_rules sp st s t k r e = ap (table_rules sp st) (tables_read sp st s t k r e)

-- does it accept?
abbrev accepts : {A : Type 0} → Ruling A → Bool
accepts (accepted a) = true
accepts (refused n t v) = false

module _ (sp st s : List ℕ) where
  pub image_opens : Every Passes (open_rules sp st s) → verdict (stored_rules sp st s) ≡ verdict (image_rules sp st s)
  image_opens o = sym (ruling_all (open_rules sp st s) (stored_rules sp st s) fine o)

  opened_by : {A : Type 0} (a : A) (r : Ruling A) → ruling (open_rules sp st s) a ≡ r → accepts r ≡ true → verdict (image_rules sp st s) ≡ verdict (stored_rules sp st s)
  opened_by a (accepted b) e f = sym (image_opens (ruling_accepted (open_rules sp st s) a b e).0)
  opened_by a (refused n t v) e f = cc

  -- where an image opens, what is judged is the tables in it
  pub opened_judged : accepts (ruling (open_rules sp st s) (gene_count (content s))) ≡ true → verdict (image_rules sp st s) ≡ verdict (stored_rules sp st s)
  opened_judged f = opened_by (gene_count (content s)) (ruling (open_rules sp st s) (gene_count (content s))) refl f

  pub image_closed : {X : Type 0} (x : X) (n m v : ℕ) → ruling (open_rules sp st s) x ≡ refused n m v → refused n m v ≡ verdict (image_rules sp st s)
  image_closed x n m v e = sym (ruling_stays (open_rules sp st s) (stored_rules sp st s) x fine n m v e)

  plain_ruling : {A : Type 0} (rs : List Rule) (a : A) (r : Ruling Fine) → verdict rs ≡ r → verdict rs ≡ plain (ruling rs a)
  plain_ruling rs a (accepted fine) e = e ∙ sym (ap plain (ruling_passes rs a (ruling_accepted rs fine fine e).0))
  plain_ruling rs a (refused n m v) e = e ∙ sym (ap plain (refused_any rs fine a n m v e))

  judged_by : (t : Lent) → (Every Passes (open_rules sp st s) → lends (gene_count (content s)) t ≡ true) → (r : Ruling Fine) → verdict (open_rules sp st s) ≡ r → verdict (image_rules sp st s) ≡ plain (load sp st s t).answer
  unfolding load
  judged_by t l (accepted fine) e =
      let o = (ruling_accepted (open_rules sp st s) fine fine e).0 in
      let c = contents_of (stored_pair sp st (family_of (content s))) (stored_history (family_of (content s))) in
      sym (image_opens o) ∙ plain_ruling (stored_rules sp st s) c (verdict (stored_rules sp st s)) refl ∙ sym (ap plain (past_entry sp st s t o (l o)))
  judged_by t l (refused n m v) e = sym (image_closed fine n m v e) ∙ ap (λ x. plain x.answer) (load_closed sp st s t fine n m v e)

  -- an image is judged as it is loaded, into tables that are long enough
  pub judged_load : (t : Lent) → (Every Passes (open_rules sp st s) → lends (gene_count (content s)) t ≡ true) → verdict (image_rules sp st s) ≡ plain (load sp st s t).answer
  judged_load t l = judged_by t l (verdict (open_rules sp st s)) refl
