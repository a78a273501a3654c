-- A way up as it is noted, and as it is listed backwards. Assumes nothing.
--   Noting par way node x k <-> the first k entries of way go up from node, each to its parent, and x comes next
use Prim.Native.Nat.{ℕ, ◌+◌, ◌≤◌, ◌<◌}
use native.Mathlib.Omega.{arith}
use native.Mathlib.Decide.{ℕ_discrete}
use mathlib.Core.Path.{◌≡◌, refl, sym, ap, ◌∙◌}
use mathlib.Core.Logic.{◌⊎◌, inl, inr, ◌≢◌}
use mathlib.Core.List.{List}
use lib.ListN.{length, get_or, set}
use lib.Seq.{get_or-set_same, get_or-set_other}
use Rattle.trees.specs.Trees.{up}
use Rattle.trees.proofs.Lines.{up_at}
use Rattle.orders.specs.Listing.{Has, Noted, WayMeets, Listed}
use Rattle.std.proofs.Common.{Some}

pub record Noting (par way : List ℕ) (node x k : ℕ) : Type 0 where
  pub inside : (j : ℕ) → j < k → get_or way j 0 < length par
  pub next : (j : ℕ) → j + 1 < k → up par (get_or way j 0) ≡ get_or way (j + 1) 0
  pub coming : (j : ℕ) → j + 1 ≡ k → up par (get_or way j 0) ≡ x
  pub none_yet : k ≡ 0 → x ≡ node
  pub first : 0 < k → get_or way 0 0 ≡ node

pub noting_start : (par way : List ℕ) (node : ℕ) → Noting par way node node 0
noting_start par way node =
    record {
      inside = λ j h. absurd (omega arith);
      next = λ j h. absurd (omega arith);
      coming = λ j e. absurd (omega arith);
      none_yet = λ e. refl;
      first = λ h. absurd (omega arith);
    }

pub noting_turn : {par way : List ℕ} {node x k : ℕ} → k < length way → x < length par → Noting par way node x k → Noting par (set way k x) node (get_or par x 0) (k + 1)
noting_turn {par} {way} {node} {x} {k} r h N =
    let here : get_or (set way k x) k 0 ≡ x = get_or-set_same way k x 0 r in
    let else : (j : ℕ) → j ≢ k → get_or (set way k x) j 0 ≡ get_or way j 0 = (λ j n. get_or-set_other way k j x 0 n) in
    record {
      inside = λ j l. elim (ℕ_discrete j k) [ yes e ↦ rw (e, here) h | no n ↦ rw (else j n) (N.inside j (omega arith)) ];
      next = λ j l. elim (ℕ_discrete (j + 1) k) [
        | yes e ↦ rw (else j (omega arith), e, here) (N.coming j e)
        | no n ↦ rw (else j (omega arith), else (j + 1) n) (N.next j (omega arith))
      ];
      coming = λ j e. let z : j ≡ k = omega arith in rw (z, here) (up_at par x h);
      none_yet = λ e. absurd (omega arith);
      first = λ l. elim (ℕ_discrete 0 k) [ yes e ↦ ap (λ m. get_or (set way k x) m 0) e ∙ here ∙ N.none_yet (sym e) | no n ↦ else 0 n ∙ N.first (omega arith) ];
    }

-- the way ends where a node has a position, or no parent
pub noted_at : {par way : List ℕ} (spots : List ℕ) {node x k : ℕ} → k ≤ length par → Noting par way node x k → (length par ≤ x) ⊎ Has spots x → Noted par spots way k
noted_at spots f N e = record { few = f; inside = N.inside; next = N.next; last = λ j q. rw (N.coming j q) e }

pub first_at : {par way : List ℕ} (spots : List ℕ) {node x k : ℕ} → Noting par way node x k → Has spots x → Has spots node ⊎ ((0 < k) × (get_or way 0 0 ≡ node))
first_at spots {k = k} N a = elim (ℕ_discrete k 0) [ yes e ↦ inl (rw (N.none_yet e) at a) | no n ↦ inr (omega arith, N.first (omega arith)) ]

-- ---- backwards

-- the parent of the entry before those that are listed has a position, or is none
pub parent_listed : {par old way : List ℕ} {k : ℕ} (spots : List ℕ) (i j : ℕ) → Noted par old way k → j ≡ i + 1 → j ≤ k
    → ((x : ℕ) → Has old x → Has spots x) → (j < k → Has spots (get_or way j 0)) → (length par ≤ up par (get_or way i 0)) ⊎ Has spots (up par (get_or way i 0))
parent_listed {par} {old} {way} {k} spots i j N e l stay a =
    elim (ℕ_discrete j k) [
      | yes q ↦ elim (N.last i (sym e ∙ q)) [ inl o ↦ inl o | inr b ↦ inr (stay (up par (get_or way i 0)) b) ]
      | no n ↦ inr (rw (N.next i (omega arith), ← e) (a (omega arith)))
    ]

-- and in the end the node that the way began at has one
pub way_has : {par old way spots copy : List ℕ} {x k c : ℕ} → WayMeets par old x way (Some k) → Listed par old way k spots copy c → Has spots x
way_has {spots = spots} {x} W L = elim W.first [ inl a ↦ L.stay x a | inr w ↦ rw w.1 at (L.first w.0) ]
