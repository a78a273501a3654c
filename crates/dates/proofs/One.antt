-- One answer only: any two results that meet a contract of this crate are equal. Assumes nothing.
use Rattle.std.specs.Prelude.{Ok, Err}
use Prim.Native.Nat.{ℕ}
use mathlib.Core.Path.{◌≡◌, refl, ap}
use Rattle.trees.specs.One.{Single}
use Rattle.trees.specs.Tables.{Pair}
use Rattle.trees.proofs.Bools.{clash}
use Rattle.trees.proofs.One.{single_view}
use Rattle.trees.proofs.Rulings.{refusal_one}
use Rattle.trees.proofs.Spots.{node_one}
use Rattle.histories.specs.Rules.{dating_ruling}
use Rattle.dates.specs.Answers.{dated_of, dating_of}
use Rattle.dates.specs.Promises.{DateMeets}
use Rattle.dates.specs.declared.Dating.{Dating}
use Rattle.dates.specs.declared.Dating.TheVariants.{NotDuplication, From, Between}
use Rattle.dates.specs.Answers.{DatingAnswer}

pub dated_same : (a b : Dating) → dated_of a ≡ dated_of b → a ≡ b
dated_same NotDuplication NotDuplication e = refl
dated_same NotDuplication (From b) e = clash (cc)
dated_same NotDuplication (Between b d) e = clash (cc)
dated_same (From a) NotDuplication e = clash (cc)
dated_same (From a) (From b) e = let q : a.0 ≡ b.0 = cc in ap From (node_one a b q)
dated_same (From a) (Between b d) e = clash (cc)
dated_same (Between a c) NotDuplication e = clash (cc)
dated_same (Between a c) (From b) e = clash (cc)
dated_same (Between a c) (Between b d) e =
    let p : a.0 ≡ b.0 = cc in
    let q : c.0 ≡ d.0 = cc in
    rw (node_one a b p, node_one c d q)

pub dating_one : (a b : DatingAnswer) → dating_of a ≡ dating_of b → a ≡ b
dating_one (Ok a) (Ok b) e = let q : dated_of a ≡ dated_of b = cc in ap Ok (dated_same a b q)
dating_one (Ok a) (Err s) e = clash (cc)
dating_one (Err r) (Ok b) e = clash (cc)
dating_one (Err r) (Err s) e = ap Err (refusal_one r s e)

pub date_one : (w : Pair) (v : ℕ) → Single (DateMeets w v)
date_one w v = single_view dating_of dating_one (dating_ruling w v)
