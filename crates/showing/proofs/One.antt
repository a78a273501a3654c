-- One answer only: any two results that meet a contract of this crate are equal. Assumes nothing.
use Prim.Native.Nat.{ℕ}
use mathlib.Core.Path.{◌≡◌, refl, sym, ap, ◌∙◌}
use mathlib.Core.List.{List, [], ◌∷◌, map}
use Rattle.trees.specs.One.{Single}
use Rattle.trees.proofs.One.{both, single_value}
use Rattle.talks.specs.declared.Talk.{Talk}
use Rattle.showing.specs.Lines.{line_bytes, table_bytes}
use Rattle.showing.specs.Promises.{Shown, shown, unspoiled, PutTextMeets, PutLineMeets, PutTableMeets, WideMeets}
use Rattle.showing.specs.declared.Line.{Line}
use Rattle.showing.specs.contracts.U16Number.TheImpl as words
use Rattle.showing.specs.contracts.U32Number.TheImpl as longs
use Rattle.showing.specs.contracts.U8Number.TheImpl as bytes

-- the talk and the memory
shown_one : (s : Shown) → Single (λ (r : Talk × List ℕ). ◌≡◌ {A = Shown} (record { talk = r.0; memory = r.1 }) s)
shown_one s a b p q = let e = p ∙ sym q in both a b (ap (λ (x : Shown). x.talk) e) (ap (λ (x : Shown). x.memory) e)

pub wide_one : {E : Type 0} (number : E → ℕ) (x : E) → Single (WideMeets number x)
wide_one number x = single_value _

module _ (m : List ℕ) (talk : Talk) where
  pub put_text_one : (bytes : List ℕ) → Single (λ (r : Talk × List ℕ). PutTextMeets m talk bytes r.0 r.1)
  put_text_one bytes = shown_one (shown m talk bytes)

  pub put_line_one : (l : Line) → Single (λ (r : Talk × List ℕ). PutLineMeets m talk l r.0 r.1)
  put_line_one l = shown_one (unspoiled m talk (line_bytes l))

  pub put_table_one : (table : List ℕ) → Single (λ (r : Talk × List ℕ). PutTableMeets m talk table r.0 r.1)
  put_table_one table = shown_one (unspoiled m talk (table_bytes table))

  -- what `put_table` promises of 16-bit, of 32-bit and of 8-bit entries, each of which is its own number, as the three impls say: the line of the table itself
  same_numbers : (table : List ℕ) → map {B = ℕ} (λ x. x) table ≡ table
  same_numbers [] = refl
  same_numbers (x ∷ table) = ap (λ (l : List ℕ). x ∷ l) (same_numbers table)

  module _ (table : List ℕ) (r : Talk) (m' : List ℕ) where
    -- of a table of 16-bit entries: the line shows the entries, in their order
    pub put_words_meets : PutTableMeets m talk (map words.ghosts.number table) r m' → PutTableMeets m talk table r m'
    put_words_meets h = rw (same_numbers table) at h

    -- of a table of 32-bit entries: the same
    pub put_longs_meets : PutTableMeets m talk (map longs.ghosts.number table) r m' → PutTableMeets m talk table r m'
    put_longs_meets h = rw (same_numbers table) at h

    -- of a table of bytes: the same
    pub put_bytes_meets : PutTableMeets m talk (map bytes.ghosts.number table) r m' → PutTableMeets m talk table r m'
    put_bytes_meets h = rw (same_numbers table) at h
