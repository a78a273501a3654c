-- The lines that are printed: how long they are, and those of a history one by one. Assumes nothing.
use Prim.Native.Nat.{ℕ, zero, suc, ◌+◌, ◌-◌, ◌≤◌, ◌<◌}
use native.Mathlib.Omega.{arith}
use native.Mathlib.Nat.{zero-add, add-zero}
use native.Mathlib.Numerals.{add-one}
use mathlib.Core.Path.{◌≡◌, refl, sym, ap, ◌∙◌}
use mathlib.Core.List.{List, [], ◌∷◌, ◌++◌, append-nil, append_assoc}
use lib.ListN.{length, length-append}
use Rattle.trees.specs.Lists.{range}
use Rattle.trees.proofs.Lists.{range_more}
use Rattle.histories.specs.Histories.{History}
use Rattle.numbers.specs.Numbers.{decimal}
use Rattle.histories.specs.Rules.{Counts}
use Rattle.printing.specs.Printing.{ended, letter, node_line, history_lines, counts_line, refused_word, refused_line}
use Rattle.printing.specs.Putting.{Put}
use Rattle.printing.proofs.Putting.{put_length, put_then, ended_length}

pub node_length : (g s l : ℕ) → length (node_line g s l) ≡ length (decimal g) + length (decimal s) + 4
unfolding node_line
node_length g s l =
    omega (
      arith,
      length-append (ended g 32 ++ ended s 32) (letter l ∷ 10 ∷ []),
      length-append (ended g 32) (ended s 32),
      ended_length g 32,
      ended_length s 32,
    )

-- behind its two numbers there is room for the letter and the line feed
pub node_rest : (g s l at : ℕ) {next : ℕ} {old out : List ℕ} → at + length (node_line g s l) ≤ length old
    → Put at (ended g 32 ++ ended s 32) old out next → next + 2 ≤ length out
node_rest g s l at h P =
    omega (arith, P.place, put_length P, length-append (ended g 32) (ended s 32), node_length g s l, ended_length g 32, ended_length s 32)

pub counts_length : (c : Counts) → length (counts_line c)
    ≡ length (decimal c.duplications) + length (decimal c.losses) + length (decimal c.speciations) + length (decimal c.climbs) + length (decimal c.cost) + 5
unfolding counts_line
counts_length c =
    let a = ended c.duplications 32 in
    let b = ended c.losses 32 in
    let d = ended c.speciations 32 in
    let e = ended c.climbs 32 in
    omega (
      arith,
      length-append (a ++ b ++ d ++ e) (ended c.cost 10),
      length-append (a ++ b ++ d) e,
      length-append (a ++ b) d,
      length-append a b,
      ended_length c.duplications 32,
      ended_length c.losses 32,
      ended_length c.speciations 32,
      ended_length c.climbs 32,
      ended_length c.cost 10,
    )

pub refused_length : (n t v : ℕ) → length (refused_line n t v) ≡ 11 + length (decimal n) + length (decimal t) + length (decimal v)
unfolding refused_line refused_word
refused_length n t v =
    omega (
      arith,
      length-append (refused_word ++ ended n 32 ++ ended t 32) (ended v 10),
      length-append (refused_word ++ ended n 32) (ended t 32),
      length-append refused_word (ended n 32),
      ended_length n 32,
      ended_length t 32,
      ended_length v 10,
    )

module _ (h : History) where
  lines_append : (a b : List ℕ) → history_lines h (a ++ b) ≡ history_lines h a ++ history_lines h b
  unfolding history_lines
  lines_append [] b = refl
  lines_append (g ∷ a) b =
      ap (λ l. node_line g (h.at g) (h.kind g) ++ l) (lines_append a b)
      ∙ sym (append_assoc (node_line g (h.at g) (h.kind g)) (history_lines h a) (history_lines h b))

  -- the lines of the first i gene nodes
  abbrev pub lines_to : ℕ → List ℕ
  lines_to i = history_lines h (range 0 i)

  pub lines_none : lines_to 0 ≡ []
  unfolding history_lines range
  lines_none = refl

  -- one node more
  pub lines_more : (i : ℕ) → lines_to (i + 1) ≡ lines_to i ++ node_line i (h.at i) (h.kind i)
  unfolding history_lines
  lines_more i =
      rw (add-one i, range_more 0 i, lines_append (range 0 i) ((0 + i) ∷ []), zero-add i, append-nil (node_line i (h.at i) (h.kind i)))

  lines_longer : (i k : ℕ) → length (lines_to i) ≤ length (lines_to (i + k))
  lines_longer i zero = rw (add-zero i) (omega arith)
  lines_longer i (suc k) =
      let e : i + suc k ≡ (i + k) + 1 = omega arith in
      rw (e, lines_more (i + k)) (omega (arith, lines_longer i k, length-append (lines_to (i + k)) (node_line (i + k) (h.at (i + k)) (h.kind (i + k)))))

  -- the lines of fewer nodes are no longer
  lines_fewer : (i n : ℕ) → i ≤ n → length (lines_to i) ≤ length (lines_to n)
  lines_fewer i n l = let e : i + (n - i) ≡ n = omega arith in rw e at (lines_longer i (n - i))

  -- its size
  pub size_more : (i size : ℕ) → size ≡ length (lines_to i) → size + (length (decimal i) + length (decimal (h.at i)) + 4) ≡ length (lines_to (i + 1))
  size_more i size e =
      rw (lines_more i, length-append (lines_to i) (node_line i (h.at i) (h.kind i)), node_length i (h.at i) (h.kind i), e)

  -- ---- put into a buffer, a line a turn

  pub lines_start : (old : List ℕ) → Put 0 (lines_to 0) old old 0
  lines_start old = rw lines_none (record { content = refl; place = refl })

  module _ (i at : ℕ) (old out : List ℕ) (P : Put 0 (lines_to i) old out at) where
    pub lines_room : (n : ℕ) → i < n → length (lines_to n) ≤ length old → at + length (node_line i (h.at i) (h.kind i)) ≤ length out
    lines_room n l r =
        omega (
          arith,
          P.place,
          put_length P,
          lines_fewer (i + 1) n (omega arith),
          ap length (lines_more i),
          length-append (lines_to i) (node_line i (h.at i) (h.kind i)),
        )

    pub lines_put : (end : List ℕ) (next : ℕ) → Put at (node_line i (h.at i) (h.kind i)) out end next → Put 0 (lines_to (i + 1)) old end next
    lines_put end next Q = rw (lines_more i) (put_then P Q)
