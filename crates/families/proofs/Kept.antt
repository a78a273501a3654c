-- The stored image, form 1: written and read back, and never mistaken.
--   written_loads    :  what is written loads back to the same tables
--   loaded_writes    :  an accepted image, written from the tables it loaded to, is the same bytes
--   loaded_release   :  an accepted image's species tables are the rack's at every node
--   swapped_refused  :  what is written on one release and loaded on any other: refusal 18 at the lowest node that differs, 65,535 if the
--                       counts differ, and nothing lent is touched
--   load_refused, story_refused, write_refused :  what a refused load leaves in the four tables, and a refused write in the buffer
--   changed_refused  :  one byte of an accepted image changed, anywhere, to any other value: refusal 14 at that block, and nothing lent is touched
--   loaded_fewest    :  an accepted image has the fewest blocks that hold its words, and at most 65
-- Assumes nothing.
use Prim.Native.Nat.{ℕ, ◌*◌, ◌/◌, ◌<◌, ◌≤◌}
use native.Mathlib.Omega.{arith}
use native.Mathlib.Decide.{ℕ_discrete}
use mathlib.Core.Path.{◌≡◌, refl, sym, ap, subst, ◌∙◌}
use mathlib.Core.Logic.{◌≢◌, inl, inr}
use mathlib.Core.Bool.{◌&&◌}
use mathlib.Core.List.{List, [], ◌∷◌, ◌++◌, append_assoc}
use lib.ListN.{length, get_or, take, drop, set, length-append, get_or-append}
use lib.Seq.{take_at, length-take-le, get_or-take}
use lib.Dec.{T, eqb}
use borrow.Author.Tests.{eq-eqb, ne_eqb}
use Rattle.trees.specs.Lists.{lowest}
use Rattle.trees.specs.Tables.{Pair, pair}
use Rattle.trees.specs.Sound.{SoundSpecies, Sound}
use Rattle.trees.specs.Lent.{replaced}
use Rattle.trees.specs.Rulings.{accepted, refused, whole, each, Fails, ruling, number_of, tree_of, fine, verdict, Passes, Every, done, and}
use Rattle.trees.specs.Rules.{species_rules}
use Rattle.trees.proofs.Bools.{and_both, and_right, true_T}
use Rattle.trees.proofs.Lists.{lowest_cases}
use Rattle.trees.proofs.Rulings.{every_head, every_tail, ruling_all, ruling_pass, ruling_fail, ruling_stays, ruling_passes}
use Rattle.trees.proofs.Soundness.{species_sound}
use Rattle.histories.specs.Histories.{Agree, told, every_node, depth_in}
use Rattle.histories.specs.Legal.{Legal}
use Rattle.histories.proofs.Legal.{legal_agree}
use Rattle.histories.proofs.Counts.{losses_agree, duplications_agree}
use Rattle.blocks.specs.Halves.{Under}
use Rattle.blocks.specs.Blocks.{count, content}
use Rattle.blocks.specs.Image.{fewest, filled, image_of, blank, block_rules}
use Rattle.blocks.proofs.Blocks.{under_contents}
use Rattle.blocks.proofs.Image.{fewest_holds, fewest_least, blank_filled, count_image, content_image, image_intact, intact_passes, image_words, changed}
use Rattle.words.specs.Words.{alike}
use Rattle.families.specs.Families.{Family, family_words, species_count, gene_count, word_count, family_of, Even}
use Rattle.families.specs.Writing.{stored_family, family_image, Writing, write}
use Rattle.families.specs.Loading.{limit, in_size_lem, framed, form_rules, rack_rules, Lent, lends, content_rules, open_rules, entry_rules, stored_pair, stored_history, story_rules, zeroed_all, Contents, contents_of, load}
use Rattle.families.proofs.Families.{length_words, family_words_back, length_parents, length_genes, even_family, words_family}
use Rattle.families.specs.Swaps.{Differs, counts, node}
use Rattle.families.proofs.Opened.{in_size_is, Framed, alike_is, Opened, opened_count, words_room}
use Rattle.families.proofs.Loaded.{Lends, lends_is, Loaded, loaded_as, refused_any, load_accepted, load_leaves, Written, write_accepted, write_leaves}

-- ---- how many blocks

pub blocks_few : (p q : ℕ) → p ≤ 2047 → q ≤ 2047 → fewest (word_count p q) ≤ limit
blocks_few p q h k = fewest_least (word_count p q) limit (omega arith)

-- "p = 5, q = 47 / 49": "1 block / 2 blocks"
blocks_47 : fewest (word_count 5 47) ≡ 1
unfolding fewest
blocks_47 = refl

blocks_49 : fewest (word_count 5 49) ≡ 2
unfolding fewest
blocks_49 = refl

-- ---- the release

-- an accepted image's species tables are the rack's
pub loaded_release : (sp st s : List ℕ) (t : Lent) (a : Contents) → (load sp st s t).answer ≡ accepted a → ((family_of (content s)).sp ≡ sp) × ((family_of (content s)).st ≡ st)
unfolding rack_rules
loaded_release sp st s t a e =
    let o = ((load_accepted sp st s t a).0 e).opened in
    let f = family_of (content s) in
    let room = words_room s o.frame in
    let n = opened_count sp st s o in
    let lp : length f.sp ≡ length sp = length_parents (content s) room ∙ n in
    let lt : length f.st ≡ length st = (even_family (content s) room).species ∙ lp ∙ sym o.rack.tree.even in
    (alike_is f.sp f.st sp st lp lt o.rack.tree.even).0 (every_head (every_tail o.release))

-- ---- loaded and written

module _ (sp st s : List ℕ) (t : Lent) (a : Contents) (e : (load sp st s t).answer ≡ accepted a) where
  d : Loaded sp st s t a
  d = (load_accepted sp st s t a).0 e

  abbrev g : Family
  g = family_of (content s)

  q_is : a.genes ≡ length g.gp
  unfolding contents_of
  q_is = sym (ap (λ c. c.genes) d.value)

  p_is : a.species ≡ length sp
  unfolding contents_of
  p_is = sym (ap (λ c. c.species) d.value)

  room : word_count (species_count (content s)) (gene_count (content s)) ≤ length (content s)
  room = words_room s d.opened.frame

  g_even : Even g
  g_even = even_family (content s) room

  -- behind the words there are zeros
  blank_behind : T (framed (count s) (content s)) → T (blank (drop (word_count (species_count (content s)) (gene_count (content s))) (content s)))
  unfolding framed
  blank_behind f = and_right (eqb (count s) (fewest (word_count (species_count (content s)) (gene_count (content s))))) _ (and_right (in_size_lem (species_count (content s)) && in_size_lem (gene_count (content s))) _ f)

  -- the family's image is the image
  bytes_is : Under 256 s → family_image g ≡ s
  bytes_is u =
      let o = d.opened in
      ap image_of (words_family (content s) room (under_contents (count s) s u) o.form)
      ∙ image_words limit s _ u o.intact (sym o.frame.blocks) (blank_behind o.framed)

  -- a table with its first entries replaced
  taken : (new old : List ℕ) → length new ≡ length g.gp → take (length g.gp) (replaced new old) ≡ new
  unfolding replaced
  taken new old e = take_at new _ _ e

  abbrev places : List ℕ
  places = replaced g.places t.places

  abbrev labels : List ℕ
  labels = replaced g.labels t.labels

  stored_is : stored_family (stored_pair sp st g) places labels ≡ g
  stored_is =
      let same = loaded_release sp st s t a e in
      λ i. record {
        sp = sym same.0 i;
        st = sym same.1 i;
        gp = g.gp;
        gt = g.gt;
        places = taken g.places t.places g_even.places i;
        labels = taken g.labels t.labels g_even.labels i;
      }

  writes : (buffer : List ℕ) → Under 256 s → length s ≤ length buffer → Written (stored_pair sp st g) places labels buffer (length s)
  unfolding replaced
  writes buffer u h =
      let b : family_image (stored_family (stored_pair sp st g) places labels) ≡ s = ap family_image stored_is ∙ bytes_is u in
      record {
        sound = d.sound;
        places_room = omega (arith, length-append g.places (drop (length g.places) t.places), g_even.places);
        labels_room = omega (arith, length-append g.labels (drop (length g.labels) t.labels), g_even.labels);
        legal =
            legal_agree d.sound
            (λ x l. (get_or-append g.places _ 0 x (omega (arith, g_even.places)), get_or-append g.labels _ 0 x (omega (arith, g_even.labels))))
            d.legal;
        room = rw b h;
        value = ap length b;
      }

-- an accepted image, written from the tables it loaded to, is the same bytes
pub loaded_writes : (sp st s buffer : List ℕ) (t : Lent) (a : Contents) → Under 256 s → (load sp st s t).answer ≡ accepted a → length s ≤ length buffer
    → write (pair sp st (take a.genes (load sp st s t).tables.gp) (take a.genes (load sp st s t).tables.gt)) (load sp st s t).tables.places (load sp st s t).tables.labels buffer
    ≡ record { answer = accepted (length s); image = replaced s buffer }
loaded_writes sp st s buffer t a u e h =
    let g = family_of (content s) in
    let b = stored_is sp st s t a e in
    let gp : take a.genes (replaced g.gp t.gp) ≡ g.gp = rw (q_is sp st s t a e) (taken sp st s t a e g.gp t.gp refl) in
    let gt : take a.genes (replaced g.gt t.gt) ≡ g.gt = rw (q_is sp st s t a e) (taken sp st s t a e g.gt t.gt (g_even sp st s t a e).genes) in
    rw (load_leaves sp st s t a (d sp st s t a e), gp, gt)
    (write_leaves (stored_pair sp st g) _ _ buffer (length s) (writes sp st s t a e buffer u h)
    ∙ ap (λ l. record { answer = accepted (length s); image = replaced l buffer }) (ap family_image b ∙ bytes_is sp st s t a e u))

-- ---- as few blocks as can be

pub record Fewest (c n : ℕ) : Type 0 where
  pub holds : c ≤ 253 * n
  pub least : (m : ℕ) → c ≤ 253 * m → n ≤ m

pub loaded_fewest : (sp st s : List ℕ) (t : Lent) (a : Contents) → (load sp st s t).answer ≡ accepted a → (length s ≡ 512 * count s) × (count s ≤ 65) × Fewest (word_count a.species a.genes) (count s)
loaded_fewest sp st s t a e =
    let o = (d sp st s t a e).opened in
    let p : species_count (content s) ≡ a.species = opened_count sp st s o ∙ sym (p_is sp st s t a e) in
    let q : gene_count (content s) ≡ a.genes = sym (length_genes (content s) (room sp st s t a e)) ∙ sym (q_is sp st s t a e) in
    let n : count s ≡ fewest (word_count a.species a.genes) = rw (p, q) at o.frame.blocks in
    (o.intact.all, o.intact.few, record { holds = rw n (fewest_holds _); least = λ m h. rw n (fewest_least _ m h) })

-- ---- what a refusal leaves

-- a load that is refused before the story is told leaves the lent tables as they were
pub load_refused : (sp st s : List ℕ) (t : Lent) (n m v : ℕ) → verdict (entry_rules sp st s t) ≡ refused n m v → load sp st s t ≡ record { answer = refused n m v; tables = t }
unfolding load
load_refused sp st s t n m v e =
    let w = stored_pair sp st (family_of (content s)) in
    let h = stored_history (family_of (content s)) in
    let a = ruling_stays (entry_rules sp st s t) (story_rules w h) fine (contents_of w h) n m v e in
    rw (a, e)

-- a load that is refused by the stored trees or their history leaves the first q entries of the four tables zero, and the rest as it was
pub story_refused : (sp st s : List ℕ) (t : Lent) (n m v : ℕ) → Every Passes (entry_rules sp st s t) → verdict (story_rules (stored_pair sp st (family_of (content s))) (stored_history (family_of (content s)))) ≡ refused n m v
    → load sp st s t ≡ record { answer = refused n m v; tables = zeroed_all (gene_count (content s)) t }
unfolding load
story_refused sp st s t n m v p e =
    let w = stored_pair sp st (family_of (content s)) in
    let h = stored_history (family_of (content s)) in
    let x : verdict (entry_rules sp st s t) ≡ accepted fine = ruling_passes (entry_rules sp st s t) fine p in
    let a : ruling (entry_rules sp st s t ++ story_rules w h) (contents_of w h) ≡ refused n m v = ruling_all (entry_rules sp st s t) (story_rules w h) (contents_of w h) p ∙ refused_any (story_rules w h) fine (contents_of w h) n m v e in
    rw (a, x, e)

-- a refused write leaves the buffer as it was
pub write_refused : (w : Pair) (places labels image : List ℕ) (n m v : ℕ) → (write w places labels image).answer ≡ refused n m v → write w places labels image ≡ record { answer = refused n m v; image = image }
unfolding write
write_refused w places labels image n m v e = rw e

-- ---- one changed byte

entry_14 : (sp st s : List ℕ) (i v : ℕ) → Opened sp st s → Under 256 s → i < length s → v < 256 → v ≢ get_or s i 0 → (t : Lent) → verdict (entry_rules sp st (set s i v) t) ≡ refused 14 0 (i / 512)
unfolding entry_rules open_rules
entry_14 sp st s i v o u h k d t =
    simp append_assoc (ruling_all (species_rules sp st) _ fine ((species_sound sp st).1 o.rack) ∙ changed limit s i v _ fine u o.intact h k d)

pub changed_refused : (sp st s : List ℕ) (t : Lent) (a : Contents) (i v : ℕ) → Under 256 s → (load sp st s t).answer ≡ accepted a → i < length s → v < 256 → v ≢ get_or s i 0
    → (t' : Lent) → load sp st (set s i v) t' ≡ record { answer = refused 14 0 (i / 512); tables = t' }
changed_refused sp st s t a i v u e h k d t' =
    load_refused sp st (set s i v) t' 14 0 (i / 512) (entry_14 sp st s i v ((load_accepted sp st s t a).0 e).opened u h k d t')

-- ---- written and loaded

says_framed : (n : ℕ) (w : List ℕ) → Framed n w → T (blank (drop (word_count (species_count w) (gene_count w)) w)) → T (framed n w)
unfolding framed
says_framed n w f e =
    let c = word_count (species_count w) (gene_count w) in
    let a = in_size_lem (species_count w) in
    let b = in_size_lem (gene_count w) in
    let d = eqb n (fewest c) in
    and_both (a && b) (d && blank (drop c w)) (and_both a b ((in_size_is _).1 f.species) ((in_size_is _).1 f.genes)) (and_both d (blank (drop c w)) (true_T (eq-eqb n (fewest c) f.blocks)) e)

-- the first q entries of two tables tell the same history
told_first : (w : Pair) (places labels : List ℕ) → Agree w (told (take (length w.gp) places) (take (length w.gp) labels)) (told places labels)
told_first w places labels g l = (get_or-take (length w.gp) places g 0 l, get_or-take (length w.gp) labels g 0 l)

module _ (w : Pair) (places labels : List ℕ) (S : Sound w) (p : length w.gp ≤ length places) (l : length w.gp ≤ length labels) where
  abbrev f : Family
  f = stored_family w places labels

  f_even : Even f
  f_even = record { species = S.species.tree.even; genes = S.genes.even; places = length-take-le _ places p; labels = length-take-le _ labels l }

  words : length (family_words f) ≡ word_count (length w.sp) (length w.gp)
  words = length_words f f_even

  abbrev s : List ℕ
  s = family_image f

  filled_is : (z : List ℕ) × (content s ≡ family_words f ++ z)
  unfolding filled
  filled_is = (_, content_image (family_words f))

  species_is : species_count (content s) ≡ length w.sp
  unfolding family_words
  species_is = rw filled_is.1

  genes_is : gene_count (content s) ≡ length w.gp
  unfolding family_words
  genes_is = rw filled_is.1

  form_is : get_or (content s) 0 0 ≡ 1
  unfolding family_words
  form_is = rw filled_is.1

  family_is : family_of (content s) ≡ f
  family_is = rw filled_is.1 (family_words_back f filled_is.0 f_even)

  blocks_is : count s ≡ fewest (word_count (length w.sp) (length w.gp))
  blocks_is = count_image (family_words f) ∙ ap fewest words

  image_framed : Framed (count s) (content s)
  image_framed =
      record {
        species = rw species_is (S.species.tree.some, S.species.tree.few);
        genes = rw genes_is (S.genes.some, S.genes.few);
        blocks = rw (species_is, genes_is) blocks_is;
      }

  image_opens : Opened w.sp w.st s
  unfolding rack_rules
  image_opens =
      record {
        rack = S.species;
        intact = image_intact (family_words f) limit (omega (arith, words)) (rw words (blocks_few _ _ S.species.tree.few S.genes.few));
        form = form_is;
        framed = says_framed (count s) (content s) image_framed (rw (species_is, genes_is, ← words, content_image (family_words f)) (blank_filled (family_words f)));
        frame = image_framed;
        release = and (true_T (eq-eqb _ _ species_is)) (and (subst (λ (g : Family). (v : ℕ) → v < length w.sp → T (alike g.sp g.st w.sp w.st v)) (sym family_is) ((alike_is w.sp w.st w.sp w.st refl refl S.species.tree.even).1 (refl, refl))) done);
      }

  -- the stored tables count what the history handed in counts
  counts_is : contents_of w (stored_history f) ≡ contents_of w (told places labels)
  unfolding contents_of
  counts_is = rw (losses_agree w (told_first w places labels) (depth_in w), duplications_agree w (told_first w places labels))

  image_loads : (t : Lent) → Lends (length w.gp) t → Legal w every_node (told places labels) → Loaded w.sp w.st s t (contents_of w (told places labels))
  image_loads t lend L =
      record {
        opened = image_opens;
        lent = rw genes_is lend;
        sound = subst (λ g. Sound (stored_pair w.sp w.st g)) (sym family_is) S;
        legal = subst (λ g. Legal (stored_pair w.sp w.st g) every_node (stored_history g)) (sym family_is) (legal_agree S (told_first w places labels) L);
        value = ap (λ g. contents_of (stored_pair w.sp w.st g) (stored_history g)) family_is ∙ counts_is;
      }

  image_leaves : (t : Lent) → Lends (length w.gp) t → Legal w every_node (told places labels) → load w.sp w.st s t ≡ loaded_as (contents_of w (told places labels)) f t
  image_leaves t lend L =
      load_leaves w.sp w.st s t (contents_of w (told places labels)) (image_loads t lend L) ∙ ap (λ g. loaded_as (contents_of w (told places labels)) g t) family_is

-- the bytes of an accepted write are the image of the family
written_bytes : (w : Pair) (places labels buffer : List ℕ) (n : ℕ) → Written w places labels buffer n → take n (write w places labels buffer).image ≡ family_image (stored_family w places labels)
written_bytes w places labels buffer n d =
    let b = family_image (stored_family w places labels) in
    ap (λ (o : Writing). take n o.image) (write_leaves w places labels buffer n d) ∙ (unfold replaced in take_at b (drop (length b) buffer) n d.value)

-- what is written loads back to the same tables
pub written_loads : (w : Pair) (places labels buffer : List ℕ) (t : Lent) (n : ℕ)
    → (write w places labels buffer).answer ≡ accepted n → T (lends (length w.gp) t)
    → load w.sp w.st (take n (write w places labels buffer).image) t ≡ loaded_as (contents_of w (told places labels)) (stored_family w places labels) t
written_loads w places labels buffer t n e lend =
    let d = (write_accepted w places labels buffer n).0 e in
    rw (written_bytes w places labels buffer n d) (image_leaves w places labels d.sound d.places_room d.labels_room t ((lends_is _ t).0 lend) d.legal)

-- ---- written and loaded on another release

-- 18 is the first rule that refuses: the blocks, the form and the frame are right on any rack
module _ (w : Pair) (places labels : List ℕ) (S : Sound w) (p : length w.gp ≤ length places) (l : length w.gp ≤ length labels) (sp' st' : List ℕ) (R : SoundSpecies sp' st') (t : Lent) where
  abbrev b : List ℕ
  b = family_image (stored_family w places labels)

  to_rack : verdict (entry_rules sp' st' b t) ≡ ruling (rack_rules sp' st' (content b) ++ whole 7 0 0 (lends (gene_count (content b)) t) ∷ []) fine
  unfolding entry_rules open_rules content_rules
  to_rack =
      let o = image_opens w places labels S p l in
      simp append_assoc
      (ruling_all (species_rules sp' st') _ fine ((species_sound sp' st').1 R)
      ∙ ruling_all (block_rules limit b) _ fine (intact_passes limit b o.intact)
      ∙ ruling_all (form_rules (count b) (content b)) _ fine (unfold form_rules in and (true_T (eq-eqb _ _ o.form)) (and o.framed done)))

  entry_18 : ((w.sp ≡ sp') × (w.st ≡ st') → ⊥) → (v : ℕ) × Differs w.sp w.st sp' st' v × (verdict (entry_rules sp' st' b t) ≡ refused 18 1 v)
  unfolding rack_rules number_of tree_of
  entry_18 d =
      let c : species_count (content b) ≡ length w.sp = species_is w places labels S p l in
      elim (ℕ_discrete (length w.sp) (length sp')) [
        | no n ↦ (65535, counts n, to_rack ∙ ruling_fail _ _ fine 65535 (refl, rw c (ne_eqb (length w.sp) (length sp') n)))
        | yes n ↦
            let ok = alike w.sp w.st sp' st' in
            elim (lowest_cases ok (length sp')) [
              | inl r ↦ (
                lowest ok (length sp'),
                node (lowest ok (length sp')) n r.0 r.1 r.2,
                to_rack
                    ∙ ruling_pass _ _ fine (true_T (eq-eqb (species_count (content b)) (length sp') (c ∙ n)))
                    ∙ ruling_fail _ _ fine (lowest ok (length sp')) (subst (λ (g : Family). Fails (each 18 1 (length sp') (alike g.sp g.st sp' st')) (lowest ok (length sp'))) (sym (family_is w places labels S p l)) r),
              )
              | inr r ↦ absurd (d ((alike_is w.sp w.st sp' st' n (S.species.tree.even ∙ n ∙ sym R.tree.even) R.tree.even).0 r.1))
            ]
      ]

-- what is written on one release and loaded on any other
pub swapped_refused : (w : Pair) (places labels buffer : List ℕ) (n : ℕ) (sp' st' : List ℕ) (t : Lent)
    → (write w places labels buffer).answer ≡ accepted n → SoundSpecies sp' st' → ((w.sp ≡ sp') × (w.st ≡ st') → ⊥)
    → (v : ℕ) × Differs w.sp w.st sp' st' v × (load sp' st' (take n (write w places labels buffer).image) t ≡ record { answer = refused 18 1 v; tables = t })
swapped_refused w places labels buffer n sp' st' t e R d =
    let a = (write_accepted w places labels buffer n).0 e in
    let (v, h, r) = entry_18 w places labels a.sound a.places_room a.labels_room sp' st' R t d in
    (v, h, rw (written_bytes w places labels buffer n a) (load_refused sp' st' _ t 18 1 v r))
