-- `nesting::nested_shuffled`: the copy passes, and so the table does. Assumes nothing.
use Prim.Native.Nat.{ℕ}
use mathlib.Core.Path.{◌≡◌, sym}
use lib.ListN.{length, replicate, length-replicate}
use Rattle.nesting.proofs.Moving.{fresh_placeable, put_copied, nests_back, part_size, part_back, part_take}
use Rattle.nesting.proofs.nested_shuffled.Goals as goal

pub put_in_order-requires : goal.put_in_order-requires
put_in_order-requires c = fresh_placeable c.requires

pub nested_copy-requires : goal.nested_copy-requires
nested_copy-requires c = let f : c.fill.new.self ≡ replicate {A = ℕ} 2047 1 = c.fill.ensures.after (λ y e. e) in
    rw f (put_copied c.requires c.put_in_order.ensures (part_size c.put_in_order.new.moved (replicate 2047 0) (length c.args.gene_parents.now) 2047 c.put_in_order.auto.moved (length-replicate {A = ℕ} 2047 0) c.requires.genes.1.few) _ _ _ _
    (part_take c.put_in_order.new.copy (replicate 2047 0) (length c.args.species_parents.now) 2047 c.put_in_order.auto.copy (length-replicate {A = ℕ} 2047 0) c.requires.species.1.few)
    (part_take c.put_in_order.new.moved (replicate 2047 0) (length c.args.gene_parents.now) 2047 c.put_in_order.auto.moved (length-replicate {A = ℕ} 2047 0) c.requires.genes.1.few)
    (sym (part_back c.put_in_order.new.copy (replicate 2047 0) (length c.args.species_parents.now) 2047 c.put_in_order.auto.copy (length-replicate {A = ℕ} 2047 0) c.requires.species.1.few)))

pub returns : goal.returns
returns c = λ t.
    let P = c.put_in_order.ensures in
    nests_back c.requires P (part_size c.put_in_order.new.moved (replicate 2047 0) (length c.args.gene_parents.now) 2047 c.put_in_order.auto.moved (length-replicate {A = ℕ} 2047 0) c.requires.genes.1.few)
    (rw (part_take c.put_in_order.new.copy (replicate 2047 0) (length c.args.species_parents.now) 2047 c.put_in_order.auto.copy (length-replicate {A = ℕ} 2047 0) c.requires.species.1.few, part_take c.put_in_order.new.moved (replicate 2047 0) (length c.args.gene_parents.now) 2047 c.put_in_order.auto.moved (length-replicate {A = ℕ} 2047 0) c.requires.genes.1.few) at (c.nested_copy.ensures t))
