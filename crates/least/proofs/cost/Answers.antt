-- `least::cost`: a weight of 16 bits times a count of 32 bits has 48. Assumes nothing.
use Prim.Native.Nat.{ℕ, ◌*◌, ◌≤◌, ◌<◌}
use native.Mathlib.Omega.{arith}
use native.Mathlib.Nat.{mul-le-mul}
use mathlib.Core.Path.{refl}
use Rattle.histories.specs.Histories.{cost}
use borrow.Author.Rules.{rules}
use Rattle.least.proofs.cost.Goals as goal

product : (a b : ℕ) → a < 65536 → b < 4294967296 → a * b ≤ 281474976710656
product a b x y = omega (arith, mul-le-mul {n₁ = a} {m₁ = b} {n₂ = 65536} {m₂ = 4294967296} (omega arith) (omega arith))

pub overflow_mul-result : goal.overflow_mul-result
overflow_mul-result c = record { fits = omega (arith, product c.args.dw c.args.duplications (search rules) (search rules)) }

pub overflow_mul-result-2 : goal.overflow_mul-result-2
overflow_mul-result-2 c = record { fits = omega (arith, product c.args.lw c.args.losses (search rules) (search rules)) }

pub overflow_add-result : goal.overflow_add-result
overflow_add-result c = record { fits = omega (arith, product c.args.dw c.args.duplications (search rules) (search rules), product c.args.lw c.args.losses (search rules) (search rules)) }

pub returns : goal.returns
unfolding cost
returns c = refl
