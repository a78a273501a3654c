-- A written text is read back word by word. Assumes nothing.
use Prim.Native.Nat.{ℕ, suc, ◌+◌, ◌^◌, ◌≤◌, ◌<◌}
use native.Mathlib.Omega.{arith}
use native.Mathlib.Nat.{lt_of_lt_of_le}
use mathlib.Core.Path.{◌≡◌, refl, sym, ap, ◌∙◌}
use mathlib.Core.Bool.{false}
use mathlib.Core.List.{List, [], ◌∷◌, ◌++◌, map, append-nil, append_assoc}
use lib.ListN.{length, get_or, replicate, length-append}
use lib.Seq.{drop-append_seam}
use lib.Pow.{pow_mono}
use lib.Dec.{T}
use borrow.Author.Tests.{lt-ltb}
use Rattle.trees.specs.Lists.{total}
use Rattle.trees.proofs.Bools.{T_true, true_T, and_both}
use Rattle.numbers.specs.Numbers.{value, is_number, decimal}
use Rattle.numbers.specs.Words.{blank, opens, words}
use Rattle.reading.specs.Reading.{fits}
use Rattle.numbers.specs.Cursor.{word_of}
use Rattle.numbers.proofs.Digits.{is_number_fits}
use Rattle.numbers.proofs.Words.{word_none, word_opens, words_opens, words_blank}
use Rattle.numbers.proofs.Spelling.{word_digits}
use Rattle.printing.specs.Printing.{ended}
use Rattle.printing.specs.Written.{Written, last, closing, more, spaced}
use Rattle.printing.proofs.Decimal.{decimal_digits, decimal_value, decimal_some, decimal_few}
use Rattle.printing.proofs.Putting.{ended_length}

-- ---- words

-- a number before a blank or the end is a word
number_word : (n : ℕ) (l : List ℕ) → opens l ≡ false → words (decimal n ++ l) ≡ decimal n ∷ words l
number_word n l e =
    let d = decimal n in
    let w : word_of (d ++ l) ≡ d = word_digits d l (decimal_digits n) ∙ ap (λ m. d ++ m) (word_none l e) ∙ append-nil d in
    words_opens (d ++ l) (word_opens (d ++ l) (rw w (decimal_some n))) ∙ rw (w, drop-append_seam d l)

blank_shut : (b : ℕ) (l : List ℕ) → T (blank b) → opens (b ∷ l) ≡ false
unfolding opens
blank_shut b l t = rw (T_true {b = blank b} t)

before_blank : (n b : ℕ) (l : List ℕ) → T (blank b) → words (ended n b ++ l) ≡ decimal n ∷ words l
unfolding ended
before_blank n b l t =
    ap words (append_assoc (decimal n) (b ∷ []) l)
    ∙ number_word n (b ∷ l) (blank_shut b l t)
    ∙ ap (λ ws. decimal n ∷ ws) (words_blank b l (T_true {b = blank b} t))

pub written_words : {ns text : List ℕ} → Written ns text → words text ≡ map decimal ns
unfolding words opens
written_words (last n) = sym (ap words (append-nil (decimal n))) ∙ number_word n [] refl
written_words (closing n b t) = sym (ap words (append-nil (ended n b))) ∙ before_blank n b [] t
written_words (more n b {ns} {text} t W) = before_blank n b text t ∙ ap (λ ws. decimal n ∷ ws) (written_words W)

-- ---- lengths

-- a number and the byte behind it
unfoldable pub cell : ℕ → ℕ
cell n = length (decimal n) + 1

pub written_length : {ns text : List ℕ} → Written ns text → length text ≤ total cell ns
unfolding total cell
written_length (last n) = omega arith
written_length (closing n b t) = omega (arith, ended_length n b)
written_length (more n b {ns} {text} t W) = omega (arith, written_length W, length-append (ended n b) text, ended_length n b)

-- ---- single spaces

pub spaced_written : (n : ℕ) (ns : List ℕ) → Written (n ∷ ns) (spaced (n ∷ ns))
unfolding spaced blank
spaced_written n [] = last n
spaced_written n (m ∷ ns) = more n 32 tt (spaced_written m ns)

-- ---- numbers

pub decimal_number : (k n : ℕ) → k ≤ 32 → n < 2 ^ k → T (is_number k (decimal n))
decimal_number k n h l =
    let s : n < 2 ^ 32 = lt_of_lt_of_le l (pow_mono h) in
    true_T (is_number_fits k (decimal n) (decimal_some n) (decimal_few 9 n (omega arith)) (decimal_digits n)
    ∙ rw (decimal_value n) (lt-ltb n (2 ^ k) l))

pub decimal_fits : (k : ℕ) (ns : List ℕ) → k ≤ 32 → ((i : ℕ) → i < length ns → get_or ns i 0 < 2 ^ k) → T (fits (replicate (length ns) k) (map decimal ns))
unfolding fits
decimal_fits k [] h f = tt
decimal_fits k (n ∷ ns) h f =
    and_both (is_number k (decimal n)) (fits (replicate (length ns) k) (map decimal ns))
    (decimal_number k n h (f 0 (omega arith)))
    (decimal_fits k ns h (λ i l. f (suc i) (omega arith)))

pub decimal_values : (ns : List ℕ) → map value (map decimal ns) ≡ ns
decimal_values [] = refl
decimal_values (n ∷ ns) = rw (decimal_value n, decimal_values ns)
