-- What is read of a spoiled talk: numbers are 0 and tables are empty, and the talk is the same.
--   NoneRead talk r   <-> if the talk is spoiled, r is the number 0 and the same talk
--   ZeroRead talk r   <-> the same of a number that is asked for
--   EmptyRead talk r  <-> the same of a table: no entry
--   EmptiesRead talk r <-> the same of two tables
-- Assumes nothing.
use Rattle.std.specs.Prelude.{◌≡◌, false, Option, Some}
use Rattle.talks.specs.declared.Talk.{Talk}
use Rattle.dialogue.specs.declared.input.Found.{Found}
use Rattle.dialogue.specs.declared.input.Table.{Table}
use Rattle.dialogue.specs.declared.tables.Tables.{Tables}

abbrev pub NoneRead : Talk → Option Found → Type 0
NoneRead talk r = talk.more ≡ false → r ≡ Some (record { value = 0; talk = talk })

abbrev pub ZeroRead : Talk → Found → Type 0
ZeroRead talk r = talk.more ≡ false → r ≡ record { value = 0; talk = talk }

abbrev pub EmptyRead : Talk → Table → Type 0
EmptyRead talk r = talk.more ≡ false → r ≡ record { count = 0; talk = talk }

abbrev pub EmptiesRead : Talk → Tables → Type 0
EmptiesRead talk r = talk.more ≡ false → r ≡ record { first = 0; second = 0; talk = talk }
