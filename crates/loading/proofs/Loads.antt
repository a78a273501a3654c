-- The outcome of a load, way by way as code comes to it. Assumes nothing.
use Prim.Native.Nat.{ℕ, ◌<◌, ◌≤◌}
use mathlib.Core.Path.{◌≡◌, refl, sym, ap, ◌∙◌}
use mathlib.Core.Bool.{true, false, ◌&&◌}
use mathlib.Core.List.{List, [], ◌++◌}
use lib.ListN.{length, take, drop, replicate, length-replicate}
use lib.Seq.{length-take-le}
use lib.Dec.{leb}
use borrow.Author.Tests.{le-leb, lt-leb}
use Rattle.trees.specs.Lent.{replaced, zeroed}
use Rattle.trees.specs.Rulings.{Ruling, accepted, refused, Rule, ruling, number_of, tree_of, Fine, fine, verdict, Passes, Every, done, and}
use Rattle.trees.proofs.Bools.{true_T}
use Rattle.trees.proofs.Rulings.{every_join, ruling_all, ruling_stays, ruling_fail, ruling_passes, ruling_accepted}
use Rattle.blocks.specs.Blocks.{content}
use Rattle.families.specs.Families.{Family, gene_count, family_of, Even}
use Rattle.families.specs.Loading.{Lent, lends, open_rules, entry_rules, stored_pair, stored_history, story_rules, Contents, contents_of, table_after, Loading, load}
use Rattle.families.proofs.Families.{length_genes, even_family}
use Rattle.families.proofs.Opened.{opened_is, words_room}
use Rattle.families.proofs.Loaded.{Lends, lends_is, refused_any}
use Rattle.families.proofs.Kept.{load_refused}
use Rattle.loading.specs.Conditions.{Loadable}
use Rattle.opening.specs.Conditions.{Opens}
use Rattle.loading.specs.Outcomes.{lent, cleared_all, story_outcome}
use Rattle.loading.proofs.Filling.{lent_is}
use Rattle.loading.proofs.Stories.{tables_in}
use Rattle.blocks.proofs.Both.{and_false}

-- ---- 7

module _ (q a b c d : ℕ) where
  pub lends_first : a < q → false ≡ (leb q a && leb q b) && (leb q c && leb q d)
  lends_first h = rw (lt-leb q a h)

  pub lends_second : b < q → false ≡ (leb q a && leb q b) && (leb q c && leb q d)
  lends_second h = rw (and_false (leb q a) (leb q b) (lt-leb q b h))

  pub lends_third : c < q → false ≡ (leb q a && leb q b) && (leb q c && leb q d)
  lends_third h = sym (and_false (leb q a && leb q b) _ (rw (lt-leb q c h)))

  pub lends_fourth : q ≤ a → q ≤ b → q ≤ c → leb q d ≡ (leb q a && leb q b) && (leb q c && leb q d)
  lends_fourth h k l = rw (le-leb q a h, le-leb q b k, le-leb q c l)

-- what the tables of q entries that are lent on must be
module _ (sp st s : List ℕ) (q : ℕ) (t : Lent) (o : Opens sp st s q) where
  pub lends_room : lends q t ≡ true → Lends q t
  lends_room e = (lends_is q t).0 (true_T e)

  pub parts_loadable : Lends q t → Loadable sp st s (lent (take q t.gp) (take q t.gt) (take q t.places) (take q t.labels))
  parts_loadable r =
      record {
        opens = o.opens;
        even =
            record {
              gp = length-take-le q t.gp r.gp ∙ o.genes;
              gt = length-take-le q t.gt r.gt ∙ o.genes;
              places = length-take-le q t.places r.places ∙ o.genes;
              labels = length-take-le q t.labels r.labels ∙ o.genes;
            };
      }

-- ---- an image that does not open, and tables that are too short

module _ (sp st s : List ℕ) (t : Lent) where
  pub load_closed : {X : Type 0} (x : X) (n m v : ℕ) → ruling (open_rules sp st s) x ≡ refused n m v → record { answer = refused n m v; tables = t } ≡ load sp st s t
  unfolding entry_rules
  load_closed x n m v e = sym (load_refused sp st s t n m v (ruling_stays (open_rules sp st s) _ x fine n m v e))

  module _ (o : Every Passes (open_rules sp st s)) where
    pub load_short : lends (gene_count (content s)) t ≡ false → record { answer = refused 7 0 0; tables = t } ≡ load sp st s t
    unfolding entry_rules number_of tree_of
    load_short e = sym (load_refused sp st s t 7 0 0 (ruling_all (open_rules sp st s) _ fine o ∙ ruling_fail _ [] fine 0 (refl, e)))

    entry_fine : lends (gene_count (content s)) t ≡ true → Every Passes (entry_rules sp st s t)
    unfolding entry_rules
    entry_fine e = every_join (open_rules sp st s) _ o (and (true_T e) done)

-- ---- the story of an image that opens, in tables that are long enough

-- the first q entries are those of new
abbrev pub behind : ℕ → Lent → Lent → Lent
behind q new old = lent (new.gp ++ drop q old.gp) (new.gt ++ drop q old.gt) (new.places ++ drop q old.places) (new.labels ++ drop q old.labels)

replaced_behind : (q : ℕ) (new old : List ℕ) → length new ≡ q → new ++ drop q old ≡ replaced new old
unfolding replaced
replaced_behind q new old e = rw (← e)

zeroed_behind : (q n : ℕ) (old : List ℕ) → n ≡ q → replicate n 0 ++ drop q old ≡ zeroed q old
unfolding zeroed
zeroed_behind q n old e = rw e (replaced_behind q (replicate q 0) old (length-replicate {A = ℕ} q 0))

module _ (sp st s : List ℕ) (t : Lent) (o : Every Passes (open_rules sp st s)) (l : lends (gene_count (content s)) t ≡ true) where
  abbrev f : Family
  f = family_of (content s)

  abbrev q : ℕ
  q = gene_count (content s)

  abbrev rs : List Rule
  rs = story_rules (stored_pair sp st f) (stored_history f)

  abbrev c : Contents
  c = contents_of (stored_pair sp st f) (stored_history f)

  -- how long the family's tables are
  n_gp : length f.gp ≡ q
  n_gp = length_genes (content s) (words_room s ((opened_is sp st s).0 o).frame)

  even : Even f
  even = even_family (content s) (words_room s ((opened_is sp st s).0 o).frame)

  entry : verdict (entry_rules sp st s t) ≡ accepted fine
  entry = ruling_passes _ fine (entry_fine sp st s t o l)

  pub past_entry : ruling (entry_rules sp st s t ++ rs) c ≡ ruling rs c
  past_entry = ruling_all _ rs c (entry_fine sp st s t o l)

  -- the four tables after each ruling of the story
  tables_told : behind q (tables_in f) t
      ≡ lent (table_after (accepted fine) (accepted fine) q f.gp t.gp) (table_after (accepted fine) (accepted fine) q f.gt t.gt) (table_after (accepted fine) (accepted fine) q f.places t.places) (table_after (accepted fine) (accepted fine) q f.labels t.labels)
  tables_told =
      lent_is (replaced_behind q f.gp t.gp n_gp) (replaced_behind q f.gt t.gt (even.genes ∙ n_gp)) (replaced_behind q f.places t.places (even.places ∙ n_gp)) (replaced_behind q f.labels t.labels (even.labels ∙ n_gp))

  tables_cleared : behind q (cleared_all (tables_in f)) t ≡ lent (zeroed q t.gp) (zeroed q t.gt) (zeroed q t.places) (zeroed q t.labels)
  tables_cleared =
      lent_is (zeroed_behind q _ t.gp n_gp) (zeroed_behind q _ t.gt (even.genes ∙ n_gp)) (zeroed_behind q _ t.places (even.places ∙ n_gp)) (zeroed_behind q _ t.labels (even.labels ∙ n_gp))

  outcome : (r : Ruling Fine) → verdict rs ≡ r → record { answer = (story_outcome sp st f).answer; tables = behind q (story_outcome sp st f).tables t } ≡ load sp st s t
  unfolding load story_outcome
  outcome (accepted fine) e =
      let a = ruling_passes rs c (ruling_accepted rs fine fine e).0 in
      rw (past_entry, entry, e, a) (ap (λ u. record { answer = accepted c; tables = u }) tables_told)
  outcome (refused n m v) e =
      let a = refused_any rs fine c n m v e in
      rw (past_entry, entry, e, a) (ap (λ u. record { answer = refused n m v; tables = u }) tables_cleared)

  pub load_story : (k : ℕ) (r : Loading) → k ≡ gene_count (content s) → r ≡ story_outcome sp st (family_of (content s)) → record { answer = r.answer; tables = behind k r.tables t } ≡ load sp st s t
  load_story k r g e = rw (g, e) (outcome (verdict rs) refl)
