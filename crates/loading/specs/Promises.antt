-- What each public function promises: of the contents at entry, in the order of the parameters, the answer, and the final contents of the four
-- lent tables.
--   ReadGenesMeets image i .. <-> the lent tables hold the gene tables and the history that stand from word i on
--   LoadImageMeets sp st image .. <-> the answer and the four tables are the outcome of the load (`load` in families)
-- Assumes nothing.
use Rattle.std.specs.Prelude.{ℕ, ◌≡◌, List, length}
use Rattle.blocks.specs.Blocks.{content}
use Rattle.families.specs.Loading.{Loading, load}
use Rattle.loading.specs.Answers.{loaded_of}
use Rattle.loading.specs.Outcomes.{lent, genes_at}
use Rattle.loading.specs.Answers.{Loaded}

abbrev pub ReadGenesMeets : List ℕ → ℕ → List ℕ → List ℕ → List ℕ → List ℕ → List ℕ → List ℕ → List ℕ → List ℕ → Type 0
ReadGenesMeets image i gp gt places labels gp' gt' places' labels' = lent gp' gt' places' labels' ≡ genes_at (content image) i (length gp)

abbrev pub LoadImageMeets : List ℕ → List ℕ → List ℕ → List ℕ → List ℕ → List ℕ → List ℕ → Loaded → List ℕ → List ℕ → List ℕ → List ℕ → Type 0
LoadImageMeets sp st image gp gt places labels r gp' gt' places' labels' =
    ◌≡◌ {A = Loading} (record { answer = loaded_of r; tables = lent gp' gt' places' labels' }) (load sp st image (lent gp gt places labels))
