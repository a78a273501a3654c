-- One turn of the fill, whichever it is, and that at the end every place and label is the least history's. Assumes nothing.
use Prim.Native.Nat.{ℕ, ◌+◌, ◌≤◌, ◌<◌}
use native.Mathlib.Omega.{arith}
use native.Mathlib.Decide.{ℕ_discrete}
use mathlib.Core.Path.{◌≡◌, refl, sym, ap, ◌∙◌}
use mathlib.Core.Logic.{◌⊎◌, inl, inr, ◌≢◌}
use mathlib.Core.Bool.{Bool, true, false, ◌||◌}
use mathlib.Core.List.{List}
use lib.ListN.{length, get_or, set, length-set}
use lib.Seq.{get_or-set_same, get_or-set_other}
use lib.Dec.{eqb}
use Rattle.trees.specs.Lists.{pick}
use Rattle.trees.specs.Trees.{none, up, kid, here, Leaf, Inner, Meet}
use Rattle.trees.specs.Tables.{Pair, home}
use Rattle.trees.specs.Sound.{Sound}
use Rattle.trees.proofs.Lines.{up_at, from_kids}
use Rattle.trees.proofs.Kids.{kids_has, none_has, kid_first, kid_second, kid_order, either_kid, not_over}
use Rattle.trees.proofs.Meets.{meet_swap}
use Rattle.trees.proofs.Sound.{trees}
use Rattle.histories.specs.Places.{place}
use Rattle.histories.specs.Histories.{label}
use Rattle.histories.proofs.Places.{place_leaf, place_node, place_meet}
use Rattle.histories.proofs.Labels.{label_leaf, label_inner, label_cases}
use Rattle.fills.specs.Filling.{Done, Arrived, Half, Filling, kind_of, Filled}

-- one entry of a table changed
record Put (old new : List ℕ) (u x : ℕ) : Type 0 where
  here_now : get_or new u 0 ≡ x
  there : (g : ℕ) → g ≢ u → get_or new g 0 ≡ get_or old g 0
  size : length new ≡ length old

put_set : (l : List ℕ) (u x : ℕ) → u < length l → Put l (set l u x) u x
put_set l u x h = record { here_now = get_or-set_same l u x 0 h; there = λ g n. get_or-set_other l u g x 0 n; size = length-set l u x }

module _ {w : Pair} (S : Sound w) where
  -- a node with a child is inner, and is not its own child
  parent_inner : (c : ℕ) → c < length w.gp → up w.gp c < length w.gp → Inner w.gp (up w.gp c)
  parent_inner c l u = elim (S.genes.two (up w.gp c) u) [ inl e ↦ absurd (none_has _ c e (kids_has w.gp l refl)) | inr i ↦ i ]

  not_own : (c g : ℕ) → c < length w.gp → up w.gp c ≡ g → c ≢ g
  not_own c g l e z = not_over (trees S).g.ground {c = c} (rw (e, z) (here (rw z at l)))

  pub fill_start : (p l : List ℕ) → length w.gp ≤ length p → length w.gp ≤ length l → ((g : ℕ) → g < length w.gp → get_or l g 0 ≡ 3)
      → ((g : ℕ) → g < length w.gp → Leaf w.gp g → get_or p g 0 ≡ home w g) → Filling w 0 none p l
  fill_start p l a b f s =
      let few : length w.gp ≤ 2047 = S.genes.few in
      let no : (g : ℕ) → g < length w.gp → Done l g → ⊥ = (λ g h d. omega (arith, f g h)) in
      record {
        places_room = a;
        labels_room = b;
        right = λ g h d. absurd (no g h d);
        leaf_done = λ g h e z. absurd (omega arith);
        leaf_fresh = λ g h e z. f g h;
        leaf_place = λ g h e z. s g h e;
        stage = λ g h i. inr (inl (f g h));
        none_yet = λ g h e c m u r. no c m r.0;
        half = λ g h e. absurd (omega (arith, f g h));
        both = λ g h d. absurd (no g h d);
        told = λ h. absurd (omega arith);
      }

  -- what is done stays done, and what was not done is not, away from the entry changed
  keeps : {l l' : List ℕ} {u x : ℕ} → Put l l' u x → (c : ℕ) → c ≢ u → Done l c → Done l' c
  keeps L c n d = rw (L.there c n) d

  kept : {l l' : List ℕ} {u x : ℕ} → Put l l' u x → (c : ℕ) → c ≢ u → Done l' c → Done l c
  kept L c n d = rw (L.there c n) at d

  not_none : (c : ℕ) → c < length w.gp → c ≢ none
  not_none c h e = omega (arith, S.genes.few)

  no_child : (g c : ℕ) → Leaf w.gp g → c < length w.gp → up w.gp c ≡ g → ⊥
  no_child g c e h u = none_has _ c e (kids_has w.gp h u)

  -- ---- a leaf is finished

  leaf_put : (k : ℕ) (p l l' : List ℕ) → Filling w k none p l → k < length w.gp → Leaf w.gp k → Put l l' k 0 → Filling w (k + 1) k p l'
  leaf_put k p l l' F h e L =
      let fresh : get_or l k 0 ≡ 3 = F.leaf_fresh k h e (omega arith) in
      let now : get_or l' k 0 ≡ 0 = L.here_now in
      let other : (c : ℕ) → Done l c → c ≢ k = (λ c d z. absurd (omega (arith, fresh, rw z at d))) in
      let away : (g : ℕ) → get_or l' g 0 ≢ 0 → g ≢ k = (λ g n z. n (rw z now)) in
      record {
        places_room = F.places_room;
        labels_room = rw L.size F.labels_room;
        right = λ g m d. elim (ℕ_discrete g k) [
          | yes z ↦ rw z (F.leaf_place k h e (omega arith) ∙ sym (place_leaf S k h e), L.here_now ∙ sym (label_leaf w k e))
          | no z ↦ rw (L.there g z) (F.right g m (kept L g z d))
        ];
        leaf_done = λ g m f b. elim (ℕ_discrete g k) [ yes z ↦ rw (z, L.here_now) (omega arith) | no z ↦ keeps L g z (F.leaf_done g m f (omega arith)) ];
        leaf_fresh = λ g m f b. L.there g (omega arith) ∙ F.leaf_fresh g m f (omega arith);
        leaf_place = λ g m f b. F.leaf_place g m f (omega arith);
        stage = λ g m i. let z : g ≢ k = (λ z. absurd (omega (arith, i, rw (← z) at e))) in rw (L.there g z) (F.stage g m i);
        none_yet = λ g m f c n u r. F.none_yet g m (sym (L.there g (away g (omega arith))) ∙ f) c n u (kept L c r.1 r.0, not_none c n);
        half = λ g m f.
            let z = away g (omega arith) in
            let H = F.half g m (sym (L.there g z) ∙ f) in
            let c = H.child in
            let o = other c H.arrived.0 in
            record {
              child = c;
              inside = H.inside;
              parent = H.parent;
              arrived = (keeps L c o H.arrived.0, o);
              its_place = H.its_place;
              alone = λ x n u r. H.alone x n u (kept L x r.1 r.0, not_none x n);
            };
        both = λ g m d c n u. elim (ℕ_discrete g k) [
          | yes z ↦ absurd (no_child k c e n (u ∙ z))
          | no z ↦ let r = F.both g m (kept L g z d) c n u in let o = other c r.0 in (keeps L c o r.0, o)
        ];
        told = λ m. rw L.here_now (omega arith);
      }

  pub fill_leaf : (k : ℕ) (p l : List ℕ) → Filling w k none p l → k < length w.gp → Leaf w.gp k → Filling w (k + 1) k p (set l k 0)
  fill_leaf k p l F h e = leaf_put k p l (set l k 0) F h e (put_set l k 0 (omega (arith, F.labels_room)))

  -- ---- an inner node is passed over

  pub fill_inner : (k : ℕ) (p l : List ℕ) → Filling w k none p l → Inner w.gp k → Filling w (k + 1) none p l
  fill_inner k p l F i =
      let away : (g : ℕ) → Leaf w.gp g → g ≢ k = (λ g e z. absurd (omega (arith, rw z at e))) in
      record {
        places_room = F.places_room;
        labels_room = F.labels_room;
        right = F.right;
        leaf_done = λ g m e b. let z = away g e in F.leaf_done g m e (omega arith);
        leaf_fresh = λ g m e b. F.leaf_fresh g m e (omega arith);
        leaf_place = λ g m e b. F.leaf_place g m e (omega arith);
        stage = F.stage;
        none_yet = F.none_yet;
        half = F.half;
        both = F.both;
        told = F.told;
      }

  -- ---- the root has no parent to tell

  -- a node that is told, or has nobody to tell, need not wait any more
  pub fill_root : (k v : ℕ) (p l : List ℕ) → Filling w k v p l → v < length w.gp → length w.gp ≤ get_or w.gp v 0 → Filling w k none p l
  fill_root k v p l F h b =
      let above : (c g : ℕ) → g < length w.gp → up w.gp c ≡ g → c ≢ v = (λ c g m u z. omega (arith, up_at w.gp v h, rw z at u)) in
      record {
        places_room = F.places_room;
        labels_room = F.labels_room;
        right = F.right;
        leaf_done = F.leaf_done;
        leaf_fresh = F.leaf_fresh;
        leaf_place = F.leaf_place;
        stage = F.stage;
        none_yet = λ g m f c n u r. F.none_yet g m f c n u (r.0, above c g m u);
        half = λ g m f.
            let H = F.half g m f in
            record {
              child = H.child;
              inside = H.inside;
              parent = H.parent;
              arrived = (H.arrived.0, not_none H.child H.inside);
              its_place = H.its_place;
              alone = λ x n u r. H.alone x n u (r.0, above x g m u);
            };
        both = λ g m d c n u. ((F.both g m d c n u).0, not_none c n);
        told = λ m. absurd (not_none none m refl);
      }

  -- ---- the first child arrives

  half_put : (k v : ℕ) (p p' l l' : List ℕ) → Filling w k v p l → v < length w.gp → up w.gp v < length w.gp → get_or l (up w.gp v) 0 ≡ 3
      → Put p p' (up w.gp v) (get_or p v 0) → Put l l' (up w.gp v) 4 → Filling w k none p' l'
  half_put k v p p' l l' F h b t P L =
      let u = up w.gp v in
      let done-v : Done l v = F.told h in
      let not-u : (c : ℕ) → Done l c → c ≢ u = (λ c d z. absurd (omega (arith, t, rw z at d))) in
      let not-u' : (c : ℕ) → Done l' c → c ≢ u = (λ c d z. absurd (omega (arith, L.here_now, rw z at d))) in
      let i = parent_inner v h b in
      record {
        places_room = rw P.size F.places_room;
        labels_room = rw L.size F.labels_room;
        right = λ g m d. let z = not-u' g d in rw (P.there g z, L.there g z) (F.right g m (kept L g z d));
        leaf_done = λ g m e c. let d = F.leaf_done g m e c in keeps L g (not-u g d) d;
        leaf_fresh = λ g m e c. let z : g ≢ u = (λ z. absurd (omega (arith, i, rw z at e))) in L.there g z ∙ F.leaf_fresh g m e c;
        leaf_place = λ g m e c. let z : g ≢ u = (λ z. absurd (omega (arith, i, rw z at e))) in P.there g z ∙ F.leaf_place g m e c;
        stage = λ g m j. elim (ℕ_discrete g u) [ yes z ↦ inr (inr (rw z L.here_now)) | no z ↦ rw (L.there g z) (F.stage g m j) ];
        none_yet = λ g m f c n a r.
            let z : g ≢ u = (λ z. absurd (omega (arith, L.here_now, rw z at f))) in
            let o = not-u' c r.0 in
            F.none_yet g m (sym (L.there g z) ∙ f) c n a (kept L c o r.0, λ y. z (sym a ∙ ap (up w.gp) y));
        half = λ g m f. elim (ℕ_discrete g u) [
          | yes z ↦ rw z (record {
            child = v;
            inside = h;
            parent = refl;
            arrived = (keeps L v (not-u v done-v) done-v, not_none v h);
            its_place = P.here_now ∙ (F.right v h done-v).0;
            alone = λ x n a r. elim (ℕ_discrete x v) [
              | yes y ↦ y
              | no y ↦ absurd (F.none_yet u b t x n a (kept L x (not-u' x r.0) r.0, y))
            ];
          })
          | no z ↦
              let H = F.half g m (sym (L.there g z) ∙ f) in
              let d = H.arrived.0 in
              record {
                child = H.child;
                inside = H.inside;
                parent = H.parent;
                arrived = (keeps L H.child (not-u H.child d) d, not_none H.child H.inside);
                its_place = P.there g z ∙ H.its_place;
                alone = λ x n a r. H.alone x n a (kept L x (not-u' x r.0) r.0, λ y. z (sym a ∙ ap (up w.gp) y));
              }
        ];
        both = λ g m d c n a.
            let z = not-u' g d in
            let r = F.both g m (kept L g z d) c n a in
            (keeps L c (not-u c r.0) r.0, not_none c n);
        told = λ m. absurd (not_none none m refl);
      }

  pub fill_half : (k v : ℕ) (p l : List ℕ) → Filling w k v p l → v < length w.gp → get_or w.gp v 0 < length w.gp → get_or l (get_or w.gp v 0) 0 ≡ 3
      → Filling w k none (set p (get_or w.gp v 0) (get_or p v 0)) (set l (get_or w.gp v 0) 4)
  fill_half k v p l F h b t =
      let e = up_at w.gp v h in
      let b' : up w.gp v < length w.gp = rw e b in
      let t' : get_or l (up w.gp v) 0 ≡ 3 = rw e t in
      rw (← e) (half_put k v p (set p (up w.gp v) (get_or p v 0)) l (set l (up w.gp v) 4) F h b' t'
      (put_set p (up w.gp v) (get_or p v 0) (omega (arith, F.places_room))) (put_set l (up w.gp v) 4 (omega (arith, F.labels_room))))

  -- ---- the second child arrives

  or_swap : (a b : Bool) → (a || b) ≡ (b || a)
  or_swap true true = refl
  or_swap true false = refl
  or_swap false true = refl
  or_swap false false = refl

  -- the child of u that is not v has arrived
  other_done : (k v u : ℕ) (p l : List ℕ) → Filling w k v p l → v < length w.gp → up w.gp v ≡ u → u < length w.gp → get_or l u 0 ≡ 4
      → (c : ℕ) → c < length w.gp → up w.gp c ≡ u → c ≢ v → Done l c
  other_done k v u p l F h e b t c j a s =
      let H = F.half u b t in
      let i : Inner w.gp u = rw e at (parent_inner v h (rw e b)) in
      let o : (x : ℕ) → x < length w.gp → up w.gp x ≡ u → (x ≡ kid w.gp u 0) ⊎ (x ≡ kid w.gp u 1) = (λ x n y. either_kid w.gp u x i n y) in
      let same : c ≡ H.child =
      elim (o c j a) [
        | inl x ↦ elim (o H.child H.inside H.parent) [
          | inl y ↦ x ∙ sym y
          | inr y ↦ elim (o v h e) [ inl z ↦ absurd (s (x ∙ sym z)) | inr z ↦ absurd (H.arrived.1 (y ∙ sym z)) ]
        ]
        | inr x ↦ elim (o H.child H.inside H.parent) [
          | inl y ↦ elim (o v h e) [ inl z ↦ absurd (H.arrived.1 (y ∙ sym z)) | inr z ↦ absurd (s (x ∙ sym z)) ]
          | inr y ↦ x ∙ sym y
        ]
      ] in
      rw same H.arrived.0

  -- the two children that meet at u: v, which arrives now, and the other, whose place stands at u
  pub record Second (v u : ℕ) (p : List ℕ) : Type 0 where
    pub other : ℕ
    pub other_in : other < length w.gp
    pub other_up : up w.gp other ≡ u
    pub apart : other ≢ v
    pub other_place : get_or p u 0 ≡ place w other
    pub its_place : get_or p v 0 ≡ place w v
    pub inner : Inner w.gp u

  pub second : (k v u : ℕ) (p l : List ℕ) → Filling w k v p l → v < length w.gp → up w.gp v ≡ u → u < length w.gp → get_or l u 0 ≢ 3 → Second v u p
  second k v u p l F h e b n =
      let i : Inner w.gp u = rw e at (parent_inner v h (rw e b)) in
      let H : Half w v p l u = elim (F.stage u b i) [
        | inl d ↦ absurd ((F.both u b d v h e).1 refl)
        | inr r ↦ elim r [ inl t ↦ absurd (n t) | inr t ↦ F.half u b t ]
      ] in
      record {
        other = H.child;
        other_in = H.inside;
        other_up = H.parent;
        apart = H.arrived.1;
        other_place = H.its_place;
        its_place = (F.right v h (F.told h)).0;
        inner = i;
      }

  module _ (v u : ℕ) (p : List ℕ) (X : Second v u p) (h : v < length w.gp) (e : up w.gp v ≡ u) (b : u < length w.gp) where
    -- the children of u are these two, in either order
    the_two : ((place w X.other ≡ place w (kid w.gp u 0)) × (place w v ≡ place w (kid w.gp u 1)))
        ⊎ ((place w X.other ≡ place w (kid w.gp u 1)) × (place w v ≡ place w (kid w.gp u 0)))
    the_two =
        elim (either_kid w.gp u X.other X.inner X.other_in X.other_up) [
          | inl x ↦ elim (either_kid w.gp u v X.inner h e) [ inl y ↦ absurd (X.apart (x ∙ sym y)) | inr y ↦ inl (ap (place w) x, ap (place w) y) ]
          | inr x ↦ elim (either_kid w.gp u v X.inner h e) [ inl y ↦ inr (ap (place w) x, ap (place w) y) | inr y ↦ absurd (X.apart (x ∙ sym y)) ]
        ]

    pub second_in : (get_or p u 0 < length w.sp) × (get_or p v 0 < length w.sp)
    second_in = (rw X.other_place (place_node S X.other X.other_in), rw X.its_place (place_node S v h))

    -- where their places meet is the place of u
    place_second : (m : ℕ) → Meet w.sp (get_or p u 0) (get_or p v 0) m → m ≡ place w u
    place_second m M =
        let N : Meet w.sp (place w X.other) (place w v) m = rw (X.other_place, X.its_place) at M in
        elim the_two [
          | inl t ↦ sym (place_meet S u m b X.inner (rw (t.0, t.1) at N))
          | inr t ↦ sym (place_meet S u m b X.inner (meet_swap (rw (t.0, t.1) at N)))
        ]

    -- and the label follows
    kind_second : (m : ℕ) → m ≡ place w u → kind_of m (get_or p u 0) (get_or p v 0) ≡ label w u
    unfolding kind_of
    kind_second m q =
        rw (X.other_place, X.its_place, label_inner w u X.inner, q)
        (elim the_two [
          | inl t ↦ rw (t.0, t.1)
          | inr t ↦ rw (t.0, t.1) (ap (λ (c : Bool). pick c 2 1) (or_swap (eqb (place w (kid w.gp u 1)) (place w u)) (eqb (place w (kid w.gp u 0)) (place w u))))
        ])

  label_small : (u : ℕ) → Inner w.gp u → label w u ≤ 2
  label_small u i = elim (label_cases w u i) [ inl k ↦ omega (arith, k.0) | inr k ↦ omega (arith, k.0) ]

  done_put : (k v u m t : ℕ) (p p' l l' : List ℕ) → Filling w k v p l → v < length w.gp → up w.gp v ≡ u → u < length w.gp → get_or l u 0 ≢ 3
      → m ≡ place w u → t ≡ label w u → Put p p' u m → Put l l' u t → Second v u p → Filling w k u p' l'
  done_put k v u m t p p' l l' F h e b n q r P L X =
      let small : t ≤ 2 = rw r (label_small u X.inner) in
      let over : get_or l u 0 ≡ 4 = elim (F.stage u b X.inner) [
        | inl d ↦ absurd ((F.both u b d v h e).1 refl)
        | inr y ↦ elim y [ inl z ↦ absurd (n z) | inr z ↦ z ]
      ] in
      let not-u : (c : ℕ) → Done l c → c ≢ u = (λ c d z. absurd (omega (arith, over, rw z at d))) in
      let up-u : (c g : ℕ) → c < length w.gp → up w.gp c ≡ g → g ≢ u → c ≢ v = (λ c g m y z s. z (sym y ∙ ap (up w.gp) s ∙ e)) in
      record {
        places_room = rw P.size F.places_room;
        labels_room = rw L.size F.labels_room;
        right = λ g m d. elim (ℕ_discrete g u) [
          | yes z ↦ rw z (P.here_now ∙ q, L.here_now ∙ r)
          | no z ↦ rw (P.there g z, L.there g z) (F.right g m (kept L g z d))
        ];
        leaf_done = λ g m f c. let d = F.leaf_done g m f c in keeps L g (not-u g d) d;
        leaf_fresh = λ g m f c. let z : g ≢ u = (λ z. absurd (omega (arith, X.inner, rw z at f))) in L.there g z ∙ F.leaf_fresh g m f c;
        leaf_place = λ g m f c. let z : g ≢ u = (λ z. absurd (omega (arith, X.inner, rw z at f))) in P.there g z ∙ F.leaf_place g m f c;
        stage = λ g m j. elim (ℕ_discrete g u) [ yes z ↦ inl (rw (z, L.here_now) small) | no z ↦ rw (L.there g z) (F.stage g m j) ];
        none_yet = λ g m f c j a y.
            let z : g ≢ u = (λ z. absurd (omega (arith, small, L.here_now, rw z at f))) in
            F.none_yet g m (sym (L.there g z) ∙ f) c j a (kept L c y.1 y.0, up-u c g j a z);
        half = λ g m f.
            let z : g ≢ u = (λ z. absurd (omega (arith, small, L.here_now, rw z at f))) in
            let H = F.half g m (sym (L.there g z) ∙ f) in
            let o = not-u H.child H.arrived.0 in
            record {
              child = H.child;
              inside = H.inside;
              parent = H.parent;
              arrived = (keeps L H.child o H.arrived.0, o);
              its_place = P.there g z ∙ H.its_place;
              alone = λ x j a y. H.alone x j a (kept L x y.1 y.0, up-u x g j a z);
            };
        both = λ g m d c j a. elim (ℕ_discrete g u) [
          | yes z ↦
              let dc : Done l c = elim (ℕ_discrete c v) [
                | yes s ↦ rw s (F.told h)
                | no s ↦ (other_done k v u p l F h e b over c j (a ∙ z) s)
              ] in
              let o = not_own c u j (a ∙ z) in
              (keeps L c o dc, o)
          | no z ↦ let y = F.both g m (kept L g z d) c j a in let o = not-u c y.0 in (keeps L c o y.0, o)
        ];
        told = λ m. rw L.here_now small;
      }

  pub fill_done : (k v m : ℕ) (p l : List ℕ) → Filling w k v p l → v < length w.gp → get_or w.gp v 0 < length w.gp → get_or l (get_or w.gp v 0) 0 ≢ 3
      → Meet w.sp (get_or p (get_or w.gp v 0) 0) (get_or p v 0) m
      → Filling w k (get_or w.gp v 0) (set p (get_or w.gp v 0) m) (set l (get_or w.gp v 0) (kind_of m (get_or p (get_or w.gp v 0) 0) (get_or p v 0)))
  fill_done k v m p l F h b n M =
      let u = get_or w.gp v 0 in
      let e = up_at w.gp v h in
      let X = second k v u p l F h e b n in
      let q = place_second v u p X h e b m M in
      let t = kind_of m (get_or p u 0) (get_or p v 0) in
      done_put k v u m t p (set p u m) l (set l u t) F h e b n q (kind_second v u p X h e b m q)
      (put_set p u m (omega (arith, F.places_room))) (put_set l u t (omega (arith, F.labels_room))) X

  -- ---- the end

  -- once all leaves are done, from children to parent everything is
  pub fill_end : (k : ℕ) (p l : List ℕ) → length w.gp ≤ k → Filling w k none p l → Filled w p l
  fill_end k p l b F =
      let all : (g : ℕ) → g < length w.gp → Done l g =
      from_kids (trees S).g.ground (λ g. Done l g)
      (λ g h f. elim (S.genes.two g h) [
        | inl e ↦ F.leaf_done g h e (omega arith)
        | inr i ↦
            let k0 = kid_first w.gp g i in
            let k1 = kid_second w.gp g i in
            let a0 : Arrived l none (kid w.gp g 0) = (f (kid w.gp g 0) k0.0 k0.1, not_none (kid w.gp g 0) k0.0) in
            let a1 : Arrived l none (kid w.gp g 1) = (f (kid w.gp g 1) k1.0 k1.1, not_none (kid w.gp g 1) k1.0) in
            elim (F.stage g h i) [
              | inl d ↦ d
              | inr r ↦ elim r [
                | inl t ↦ absurd (F.none_yet g h t (kid w.gp g 0) k0.0 k0.1 a0)
                | inr t ↦
                    let H = F.half g h t in
                    absurd (omega (arith, kid_order w.gp g i, H.alone (kid w.gp g 0) k0.0 k0.1 a0, H.alone (kid w.gp g 1) k1.0 k1.1 a1))
              ]
            ]
      ]) in
      record { places_room = F.places_room; labels_room = F.labels_room; right = λ g h. F.right g h (all g h) }
