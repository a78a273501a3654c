-- The four lent tables filled. Assumes nothing.
use Prim.Native.Nat.{ℕ, ◌+◌, ◌*◌}
use mathlib.Core.Path.{◌≡◌}
use mathlib.Core.List.{List}
use lib.ListN.{length}
use Rattle.blocks.specs.Halves.{longs_of}
use Rattle.blocks.specs.Blocks.{run}
use Rattle.families.specs.Loading.{Lent}
use Rattle.loading.specs.Conditions.{EvenLent}
use Rattle.loading.specs.Outcomes.{lent, genes_at}

-- ---- four tables

pub lent_is : {a b c d a' b' c' d' : List ℕ} → a ≡ a' → b ≡ b' → c ≡ c' → d ≡ d' → lent a b c d ≡ lent a' b' c' d'
lent_is e f g h = λ i. record { gp = e i; gt = f i; places = g i; labels = h i }

pub genes_read : (w : List ℕ) (i : ℕ) (t : Lent) (a b c d : List ℕ) → EvenLent (length t.gp) t
    → a ≡ run i (length t.gp) w → b ≡ longs_of (run (i + length t.gp) (2 * length t.gt) w)
    → c ≡ run (i + 3 * length t.gp) (length t.places) w → d ≡ run (i + 4 * length t.gp) (length t.labels) w
    → lent a b c d ≡ genes_at w i (length t.gp)
genes_read w i t a b c d e p q r s =
    lent_is p (rw e.gt at q) (rw e.places at r) (rw e.labels at s)
