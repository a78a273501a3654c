-- Numbers of 16 and of 32 bits as the entries of a table, and what the laws of an entry give. Assumes nothing.
use Rattle.std.proofs.Common.{ℕ, suc, ◌+◌, ◌*◌, ◌<◌, ◌≡◌, List, [], ◌∷◌, length, get_or, take, drop, refl, ap, ◌∙◌, arith, add-one, drop-cons, take-add, drop-drop}
use Rattle.blocks.specs.Halves.{joined, words_of, longs_of}
use Rattle.blocks.specs.Blocks.{run, word}
use Rattle.blocks.proofs.Halves.{drop_joined, take_joined}
use Rattle.words.specs.Entries.{EntryLaws}

-- ---- one entry

run_two : (at : ℕ) (s : List ℕ) → at + 1 < length s → run at 2 s ≡ get_or s at 0 ∷ get_or s (at + 1) 0 ∷ []
run_two at s h =
    let one : at < length s = omega arith in
    let two : suc at < length s = omega arith in
    rw (drop-cons s at 0 one, drop-cons s (suc at) 0 two, add-one) refl

run_four : (at : ℕ) (s : List ℕ) → at + 3 < length s → run at 4 s ≡ get_or s at 0 ∷ get_or s (at + 1) 0 ∷ get_or s (at + 2) 0 ∷ get_or s (at + 3) 0 ∷ []
run_four at s h =
    let z : at + 2 + 1 ≡ at + 3 = omega arith in
    take-add 2 2 (drop at s) ∙ rw (drop-drop 2 at s, run_two at s (omega arith), run_two (at + 2) s (omega arith), z) refl

-- the bytes of one number are that number
pub word_bytes : (at b : ℕ) (s : List ℕ) (v : ℕ) → b ≡ at → at + 1 < length s → v ≡ word s at → words_of (run b 2 s) ≡ v ∷ []
unfolding joined
word_bytes at b s v e h f = rw (e, run_two at s h, f) refl

pub long_bytes : (at b : ℕ) (s : List ℕ) (v : ℕ) → b ≡ at → at + 3 < length s → v ≡ word s at + 65536 * word s (at + 2) → longs_of (words_of (run b 4 s)) ≡ v ∷ []
unfolding joined
long_bytes at b s v e h f =
    let z : at + 2 + 1 ≡ at + 3 = omega arith in
    rw (e, run_four at s h, f, z) refl

-- the words of one number are that number
pub one_word : (i : ℕ) (w : List ℕ) (v : ℕ) → i < length w → v ≡ get_or w i 0 → run i 1 w ≡ v ∷ []
one_word i w v h f = rw (drop-cons w i 0 h, f) refl

pub one_long : (i : ℕ) (w : List ℕ) (v : ℕ) → i + 1 < length w → v ≡ get_or w i 0 + 65536 * get_or w (i + 1) 0 → longs_of (run i 2 w) ≡ v ∷ []
unfolding joined
one_long i w v h f = rw (run_two i w h, f) refl

-- ---- what the laws give

module _ {E : Type 0} {size : ℕ} {entries : List ℕ → List E} (laws : EntryLaws size entries) where
  -- m entries from k on are those of their words
  pub entries_run : (k m : ℕ) (w : List ℕ) → take m (drop k (entries w)) ≡ entries (take (size * m) (drop (size * k) w))
  entries_run k m w = ap (take m) (laws.rest k w) ∙ laws.front m (drop (size * k) w)

  -- entry k of bytes that stand side by side
  pub entry_piece : (b : List ℕ) (k : ℕ) (x : E) → entries (words_of (run (2 * (size * k)) (2 * size) b)) ≡ x ∷ [] → take 1 (drop k (entries (words_of b))) ≡ x ∷ []
  entry_piece b k x e =
      let z : size * 1 ≡ size = omega arith in
      entries_run k 1 (words_of b) ∙ rw (z, drop_joined 256 (size * k) b, take_joined 256 size (drop (2 * (size * k)) b)) e
