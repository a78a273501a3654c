-- One answer only: any two results that meet a contract of this crate are equal. A result of a load is the answer and the four tables.
-- Assumes nothing.
use Rattle.std.specs.Prelude.{Ok, Err}
use Prim.Native.Nat.{ℕ}
use mathlib.Core.Path.{◌≡◌, sym, ap, ◌∙◌}
use mathlib.Core.List.{List}
use Rattle.trees.specs.One.{Single}
use Rattle.trees.proofs.Bools.{clash}
use Rattle.trees.proofs.One.{both}
use Rattle.trees.proofs.Rulings.{refusal_one}
use Rattle.families.specs.Loading.{Lent, Contents, Loading}
use Rattle.loading.specs.Answers.{stored_of, loaded_of}
use Rattle.loading.specs.Promises.{ReadGenesMeets, LoadImageMeets}
use Rattle.loading.specs.declared.Stored.{Stored}
use Rattle.loading.specs.Answers.{Loaded}

stored_one : (a b : Stored) → stored_of a ≡ stored_of b → a ≡ b
stored_one a b e = ap (λ (c : Contents). record { species = c.species; genes = c.genes; duplications = c.duplications; losses = c.losses }) e

loaded_one : (a b : Loaded) → loaded_of a ≡ loaded_of b → a ≡ b
loaded_one (Ok a) (Ok b) e = let q : stored_of a ≡ stored_of b = cc in ap Ok (stored_one a b q)
loaded_one (Ok a) (Err s) e = clash (cc)
loaded_one (Err r) (Ok b) e = clash (cc)
loaded_one (Err r) (Err s) e = ap Err (refusal_one r s e)

pub read_genes_one : (image : List ℕ) (i : ℕ) (gp gt places labels : List ℕ)
    → Single (λ (r : Lent). ReadGenesMeets image i gp gt places labels r.gp r.gt r.places r.labels)
read_genes_one image i gp gt places labels a b p q = p ∙ sym q

pub load_image_one : (sp st image gp gt places labels : List ℕ)
    → Single (λ (r : Loaded × Lent). LoadImageMeets sp st image gp gt places labels r.0 r.1.gp r.1.gt r.1.places r.1.labels)
load_image_one sp st image gp gt places labels a b p q =
    let e = p ∙ sym q in
    both a b (loaded_one a.0 b.0 (ap (λ (x : Loading). x.answer) e)) (ap (λ (x : Loading). x.tables) e)
