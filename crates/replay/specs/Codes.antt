-- The codes of the requests.                                                           (docs/REPLAY.md, "What it reads")
--   code_of q    == the code of the request q
--   Decodes n r  <-> r is the request of the code n; or n is 0 or over 8, and no code
-- Assumes nothing.
use Rattle.std.specs.Prelude.{ℕ, ◌≡◌, ◌<◌, ◌⊎◌, Result, MatchResult}
use Rattle.replay.specs.declared.request.Request.{Request}
use Rattle.replay.specs.declared.request.Request.TheVariants.{JudgeSpecies, JudgePair, LeastHistory, JudgeOffer, Date, WriteImage, LoadImage, AskCollector}
use Rattle.replay.specs.declared.request.NoCode.{NoCode}

abbrev pub code_of : Request → ℕ
code_of JudgeSpecies = 1
code_of JudgePair = 2
code_of LeastHistory = 3
code_of JudgeOffer = 4
code_of Date = 5
code_of WriteImage = 6
code_of LoadImage = 7
code_of AskCollector = 8

abbrev pub Decodes : ℕ → Result Request NoCode → Type 0
Decodes n r = MatchResult r (λ q. code_of q ≡ n) (λ e. (e.0 ≡ n) × ((n ≡ 0) ⊎ (8 < n)))
