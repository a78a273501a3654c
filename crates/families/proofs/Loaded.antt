-- Which images load, which families are written, and what each call leaves. Assumes nothing.
use Prim.Native.Nat.{ℕ, ◌≤◌}
use native.Mathlib.Omega.{arith}
use mathlib.Core.Path.{◌≡◌, refl}
use mathlib.Core.Logic.{◌↔◌}
use mathlib.Core.Bool.{◌&&◌}
use mathlib.Core.List.{List, [], ◌∷◌, ◌++◌, append-nil}
use lib.ListN.{length}
use lib.Dec.{T, leb, leb→le, le→leb}
use Rattle.trees.specs.Tables.{Pair}
use Rattle.trees.specs.Sound.{Sound}
use Rattle.trees.specs.Lent.{replaced}
use Rattle.trees.specs.Rulings.{accepted, refused, Rule, whole, ruling, fine, verdict, Passes, Every, done, and}
use Rattle.trees.specs.Rules.{sized, family_rules}
use Rattle.trees.proofs.Bools.{and_both, and_left, and_right}
use Rattle.trees.proofs.Rulings.{every_head, every_join, every_left, every_right, ruling_is, ruling_stays, ruling_passes, ruling_accepted}
use Rattle.trees.proofs.Soundness.{is_sized, family_sound}
use Rattle.histories.specs.Histories.{told, every_node}
use Rattle.histories.specs.Legal.{Legal}
use Rattle.histories.specs.Rules.{descent_rules, offer_rules, offer_counts, offer_ruling}
use Rattle.histories.proofs.Judged.{descent_legal}
use Rattle.histories.proofs.Accepted.{Offered, offer_accepted}
use Rattle.blocks.specs.Blocks.{content}
use Rattle.families.specs.Families.{Family, gene_count, family_of}
use Rattle.families.specs.Writing.{stored_family, family_image, write_rules, write}
use Rattle.families.specs.Loading.{Lent, lends, open_rules, entry_rules, stored_pair, stored_history, story_rules, Contents, contents_of, Loading, load}
use Rattle.families.proofs.Families.{length_genes, even_family}
use Rattle.families.proofs.Opened.{Opened, opened_is, words_room}

-- ---- 7 of a load

pub record Lends (q : ℕ) (t : Lent) : Type 0 where
  pub gp : q ≤ length t.gp
  pub gt : q ≤ length t.gt
  pub places : q ≤ length t.places
  pub labels : q ≤ length t.labels

pub lends_is : (q : ℕ) (t : Lent) → T (lends q t) ↔ Lends q t
unfolding lends
lends_is q t =
    let a = leb q (length t.gp) in
    let b = leb q (length t.gt) in
    let c = leb q (length t.places) in
    let d = leb q (length t.labels) in (
      (λ e.
          let l = and_left (a && b) (c && d) e in
          let r = and_right (a && b) (c && d) e in
          record { gp = leb→le q _ (and_left a b l); gt = leb→le q _ (and_right a b l); places = leb→le q _ (and_left c d r); labels = leb→le q _ (and_right c d r) }),
      (λ h. and_both (a && b) (c && d) (and_both a b (le→leb q _ h.gp) (le→leb q _ h.gt)) (and_both c d (le→leb q _ h.places) (le→leb q _ h.labels))),
    )

-- ---- a load

module _ (sp st s : List ℕ) where
  -- the stored gene tables are of a right size
  pub stored_sized : Opened sp st s → T (sized (family_of (content s)).gp (family_of (content s)).gt)
  stored_sized o =
      let room = words_room s o.frame in
      let g = length_genes (content s) room in
      is_sized _ _ (record { some = omega (arith, o.frame.genes); few = omega (arith, o.frame.genes); even = (even_family (content s) room).genes })

  story_is : Opened sp st s
      → Every Passes (story_rules (stored_pair sp st (family_of (content s))) (stored_history (family_of (content s))))
      ↔ (Sound (stored_pair sp st (family_of (content s))) × Legal (stored_pair sp st (family_of (content s))) every_node (stored_history (family_of (content s))))
  unfolding story_rules
  story_is o =
      let f = family_of (content s) in
      let w = stored_pair sp st f in
      let h = stored_history f in
      let k = family_sound w (stored_sized o) in (
        (λ e.
            let g = k.0 (every_left (family_rules w) (descent_rules w every_node h) e) in
            let S : Sound w = record { species = o.rack; genes = g.0; known = g.1 } in
            (S, (descent_legal S every_node h).0 (every_right (family_rules w) (descent_rules w every_node h) e))),
        (λ e. every_join (family_rules w) (descent_rules w every_node h) (k.1 (e.0.genes, e.0.known)) ((descent_legal e.0 every_node h).1 e.1)),
      )

-- a refusal does not depend on what would be answered
pub refused_any : {A B : Type 0} (rs : List Rule) (a : A) (b : B) (n t v : ℕ) → ruling rs a ≡ refused n t v → ruling rs b ≡ refused n t v
refused_any rs a b n t v e = rw append-nil at (ruling_stays rs [] a b n t v e)

-- what it takes for a load to be accepted, with which answer
pub record Loaded (sp st s : List ℕ) (t : Lent) (a : Contents) : Type 0 where
  pub opened : Opened sp st s
  pub lent : Lends (gene_count (content s)) t
  pub sound : Sound (stored_pair sp st (family_of (content s)))
  pub legal : Legal (stored_pair sp st (family_of (content s))) every_node (stored_history (family_of (content s)))
  pub value : contents_of (stored_pair sp st (family_of (content s))) (stored_history (family_of (content s))) ≡ a

-- accepted with the answer a, the tables of the family f in the first entries
abbrev pub loaded_as : Contents → Family → Lent → Loading
loaded_as a f t =
    record {
      answer = accepted a;
      tables =
          record {
            gp = replaced f.gp t.gp;
            gt = replaced f.gt t.gt;
            places = replaced f.places t.places;
            labels = replaced f.labels t.labels;
          };
    }

module _ (sp st s : List ℕ) (t : Lent) where
  pub entry_is : Every Passes (entry_rules sp st s t) ↔ (Opened sp st s × Lends (gene_count (content s)) t)
  unfolding entry_rules
  entry_is =
      let r = whole 7 0 0 (lends (gene_count (content s)) t) ∷ [] in (
        (λ e. ((opened_is sp st s).0 (every_left (open_rules sp st s) r e), (lends_is _ t).0 (every_head (every_right (open_rules sp st s) r e)))),
        (λ p. every_join (open_rules sp st s) r ((opened_is sp st s).1 p.0) (and ((lends_is _ t).1 p.1) done)),
      )

  pub load_accepted : (a : Contents) → ((load sp st s t).answer ≡ accepted a) ↔ Loaded sp st s t a
  unfolding load
  load_accepted a =
      let f = family_of (content s) in
      let x = entry_rules sp st s t in
      let y = story_rules (stored_pair sp st f) (stored_history f) in
      let k = ruling_is (x ++ y) (contents_of (stored_pair sp st f) (stored_history f)) a in (
        (λ e.
            let (p, v) = k.0 e in
            let (o, l) = entry_is.0 (every_left x y p) in
            let g = (story_is sp st s o).0 (every_right x y p) in
            record { opened = o; lent = l; sound = g.0; legal = g.1; value = v }),
        (λ d. k.1 (every_join x y (entry_is.1 (d.opened, d.lent)) ((story_is sp st s d.opened).1 (d.sound, d.legal)), d.value)),
      )

  -- an accepted load leaves the family's tables
  pub load_leaves : (a : Contents) → Loaded sp st s t a → load sp st s t ≡ loaded_as a (family_of (content s)) t
  unfolding load
  load_leaves a d =
      let x : verdict (entry_rules sp st s t) ≡ accepted fine = ruling_passes _ fine (entry_is.1 (d.opened, d.lent)) in
      let y : verdict (story_rules (stored_pair sp st (family_of (content s))) (stored_history (family_of (content s)))) ≡ accepted fine = ruling_passes _ fine ((story_is sp st s d.opened).1 (d.sound, d.legal)) in
      rw (x, y, (load_accepted a).1 d)

-- ---- a write

pub record Written (w : Pair) (places labels image : List ℕ) (n : ℕ) : Type 0 where
  pub sound : Sound w
  pub places_room : length w.gp ≤ length places
  pub labels_room : length w.gp ≤ length labels
  pub legal : Legal w every_node (told places labels)
  pub room : length (family_image (stored_family w places labels)) ≤ length image
  pub value : length (family_image (stored_family w places labels)) ≡ n

module _ (w : Pair) (places labels image : List ℕ) where
  offer_is : Every Passes (offer_rules w places labels) ↔ Offered w places labels (offer_counts w (told places labels))
  unfolding offer_ruling
  offer_is =
      let v = offer_counts w (told places labels) in
      let k = offer_accepted w places labels v in (
        (λ e. k.0 (ruling_passes (offer_rules w places labels) v e)),
        (λ o. (ruling_accepted (offer_rules w places labels) v v (k.1 o)).0),
      )

  pub write_accepted : (n : ℕ) → ((write w places labels image).answer ≡ accepted n) ↔ Written w places labels image n
  unfolding write write_rules
  write_accepted n =
      let b = length (family_image (stored_family w places labels)) in
      let x = offer_rules w places labels in
      let y = whole 12 0 0 (leb b (length image)) ∷ [] in
      let k = ruling_is (x ++ y) b n in (
        (λ e.
            let (p, v) = k.0 e in
            let o = offer_is.0 (every_left x y p) in
            record { sound = o.sound; places_room = o.places_room; labels_room = o.labels_room; legal = o.legal; room = leb→le b (length image) (every_head (every_right x y p)); value = v }),
        (λ d.
            let o = offer_is.1 (record { sound = d.sound; places_room = d.places_room; labels_room = d.labels_room; legal = d.legal; value = refl }) in
            k.1 (every_join x y o (and (le→leb b (length image) d.room) done), d.value)),
      )

  -- an accepted write leaves the image's bytes, and what stood behind them
  pub write_leaves : (n : ℕ) → Written w places labels image n
      → write w places labels image ≡ record { answer = accepted n; image = replaced (family_image (stored_family w places labels)) image }
  unfolding write
  write_leaves n d = let e : ruling (write_rules w places labels image) (length (family_image (stored_family w places labels))) ≡ accepted n = (write_accepted n).1 d in rw e
