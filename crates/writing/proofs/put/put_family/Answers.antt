-- `put_family` meets its contract: form and counts, the tables, the filling, the seals. Assumes nothing.
use native.Mathlib.Omega.{arith}
use mathlib.Core.Path.{◌≡◌, refl, ◌∙◌}
use lib.ListN.{length}
use Rattle.trees.specs.Tables.{pair_of}
use Rattle.writing.specs.Conditions.{family_told}
use Rattle.writing.proofs.Putting.{length_put, image_within, image_whole, image_put}
use Rattle.writing.proofs.put.put_family.Goals as goal

pub put-requires : goal.put-requires
put-requires c = image_within (family_told (pair_of c.args.trees.now) c.args.places.now c.args.labels.now) _ c.requires _ 0 3 refl (omega arith)

pub put_tables-requires : goal.put_tables-requires
put_tables-requires c =
    let kept_1 : length c.put.new.image ≡ length c.args.image.now = length_put _ _ _ _ c.put.ensures in
    record { even = c.requires.even; within = image_within (family_told (pair_of c.args.trees.now) c.args.places.now c.args.labels.now) _ c.requires _ 3 _ kept_1 (omega arith) }

pub put_zeros-requires : goal.put_zeros-requires
put_zeros-requires c =
    let kept_1 : length c.put.new.image ≡ length c.args.image.now = length_put _ _ _ _ c.put.ensures in
    let kept_2 : length c.put_tables.new.image ≡ length c.args.image.now = length_put _ _ _ _ c.put_tables.ensures ∙ kept_1 in
    image_within (family_told (pair_of c.args.trees.now) c.args.places.now c.args.labels.now) _ c.requires _ _ 0 kept_2 (omega arith)

pub seal_all-requires : goal.seal_all-requires
seal_all-requires c =
    let kept_1 : length c.put.new.image ≡ length c.args.image.now = length_put _ _ _ _ c.put.ensures in
    let kept_2 : length c.put_tables.new.image ≡ length c.args.image.now = length_put _ _ _ _ c.put_tables.ensures ∙ kept_1 in
    let kept_3 : length c.put_zeros.new.image ≡ length c.args.image.now = length_put _ _ _ _ c.put_zeros.ensures ∙ kept_2 in
    image_whole (family_told (pair_of c.args.trees.now) c.args.places.now c.args.labels.now) _ c.requires _ kept_3

pub returns : goal.returns
returns c =
    image_put (family_told (pair_of c.args.trees.now) c.args.places.now c.args.labels.now) _ c.requires _ _ _ _ c.put.ensures c.put_tables.ensures c.put_zeros.ensures c.seal_all.ensures
