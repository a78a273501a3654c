-- What the functions of this crate promise: the talk that is handed back, and what the lent memory holds then. What `write` does is no
-- part of it.
--   Shown               == a talk and a memory
--   shown m talk bytes  == the bytes are put, and the talk says how many are held
--   unspoiled m talk bytes == the same; of a spoiled talk nothing is put
--   PutTextMeets, PutLineMeets, PutTableMeets <-> a text, a line, a table; PutTableMeets is the promise of put_table, of the numbers that the entries are
--   WideMeets number x r <-> r is the number that the entry x is
-- Assumes nothing.
use Rattle.std.specs.Prelude.{ℕ, ◌≡◌, List}
use Rattle.trees.specs.Lists.{pick}
use Rattle.talks.specs.declared.Talk.{Talk}
use Rattle.showing.specs.Holding.{held, put_bytes_lem}
use Rattle.showing.specs.Lines.{line_bytes, table_bytes}
use Rattle.showing.specs.declared.Line.{Line}

pub record Shown : Type 0 where
  pub talk : Talk
  pub memory : List ℕ

unfoldable pub shown : List ℕ → Talk → List ℕ → Shown
shown m talk bytes =
    let h = put_bytes_lem (held m talk.used) bytes in
    record { talk = record { at = talk.at; end = talk.end; used = h.used; more = talk.more }; memory = h.memory }

unfoldable pub unspoiled : List ℕ → Talk → List ℕ → Shown
unspoiled m talk bytes = pick talk.more (shown m talk bytes) (record { talk = talk; memory = m })

abbrev pub PutTextMeets : List ℕ → Talk → List ℕ → Talk → List ℕ → Type 0
PutTextMeets m talk bytes r m' = ◌≡◌ {A = Shown} (record { talk = r; memory = m' }) (shown m talk bytes)

abbrev pub PutLineMeets : List ℕ → Talk → Line → Talk → List ℕ → Type 0
PutLineMeets m talk l r m' = ◌≡◌ {A = Shown} (record { talk = r; memory = m' }) (unspoiled m talk (line_bytes l))

abbrev pub PutTableMeets : List ℕ → Talk → List ℕ → Talk → List ℕ → Type 0
PutTableMeets m talk table r m' = ◌≡◌ {A = Shown} (record { talk = r; memory = m' }) (unspoiled m talk (table_bytes table))

abbrev pub WideMeets : {E : Type 0} → (E → ℕ) → E → ℕ → Type 0
WideMeets number x r = r ≡ number x
