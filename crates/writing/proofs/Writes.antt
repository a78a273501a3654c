-- The outcome of a write, way by way as code comes to it. Assumes nothing.
use Prim.Native.Nat.{ℕ, ◌*◌, ◌<◌, ◌≤◌}
use native.Mathlib.Omega.{arith}
use mathlib.Core.Path.{◌≡◌, refl, sym, ap, ◌∙◌}
use mathlib.Core.List.{List, [], ◌++◌}
use lib.ListN.{length, take, drop}
use lib.Seq.{length-take-le}
use borrow.Author.Tests.{lt-leb}
use Rattle.trees.specs.Tables.{Pair}
use Rattle.trees.specs.Lent.{replaced}
use Rattle.trees.specs.Rulings.{accepted, refused, number_of, tree_of}
use Rattle.trees.proofs.Rulings.{ruling_all, ruling_stays, ruling_fail, ruling_accepted}
use Rattle.histories.specs.Histories.{told}
use Rattle.histories.specs.Rules.{offer_rules, OfferCounts, offer_counts, offer_ruling}
use Rattle.histories.proofs.Accepted.{Offered, offer_accepted}
use Rattle.blocks.specs.Image.{fewest}
use Rattle.blocks.proofs.Image.{length_image}
use Rattle.families.specs.Families.{Family, family_words, word_count, Even}
use Rattle.families.specs.Writing.{stored_family, family_image, write_rules, write}
use Rattle.families.proofs.Families.{length_words}
use Rattle.families.proofs.Loaded.{Written, write_leaves}
use Rattle.families.proofs.Kept.{write_refused}
use Rattle.writing.specs.Conditions.{ImageRoom}

module _ (w : Pair) (places labels image : List ℕ) where
  abbrev f : Family
  f = stored_family w places labels

  pub write_unoffered : (n m v : ℕ) → offer_ruling w places labels ≡ refused n m v → record { answer = refused n m v; image = image } ≡ write w places labels image
  unfolding write write_rules offer_ruling
  write_unoffered n m v e = sym (write_refused w places labels image n m v (ruling_stays (offer_rules w places labels) _ (offer_counts w (told places labels)) (length (family_image f)) n m v e))

  module _ (c : OfferCounts) (e : offer_ruling w places labels ≡ accepted c) where
    offered : Offered w places labels c
    offered = (offer_accepted w places labels c).0 e

    pub sizes : (length w.sp ≤ 2047) × (length w.gp ≤ 2047)
    sizes = (offered.sound.species.tree.few, offered.sound.genes.few)

    pub rooms : (length w.gp ≤ length places) × (length w.gp ≤ length labels)
    rooms = (offered.places_room, offered.labels_room)

    even : Even f
    even = record { species = offered.sound.species.tree.even; genes = offered.sound.genes.even; places = length-take-le _ places rooms.0; labels = length-take-le _ labels rooms.1 }

    -- how long the image is
    size_is : length (family_image f) ≡ 512 * fewest (word_count (length w.sp) (length w.gp))
    size_is = length_image (family_words f) ∙ ap (λ n. 512 * fewest n) (length_words f even)

    pub write_short : (n : ℕ) → n ≡ 512 * fewest (word_count (length w.sp) (length w.gp)) → length image < n → record { answer = refused 12 0 0; image = image } ≡ write w places labels image
    unfolding write write_rules offer_ruling number_of tree_of
    write_short n g h =
        sym (write_refused w places labels image 12 0 0
        (ruling_all (offer_rules w places labels) _ (length (family_image f)) (ruling_accepted (offer_rules w places labels) (offer_counts w (told places labels)) c e).0
        ∙ ruling_fail _ [] (length (family_image f)) 0 (refl, lt-leb (length (family_image f)) (length image) (omega (arith, size_is)))))

    module _ (n : ℕ) (g : n ≡ 512 * fewest (word_count (length w.sp) (length w.gp))) (h : n ≤ length image) where
      -- the part of the buffer that is lent on
      pub part_room : ImageRoom (stored_family w places labels) (take n image)
      part_room = record { even = even; species_few = sizes.0; genes_few = sizes.1; size = length-take-le n image h ∙ g }

      pub write_done : (b : List ℕ) → b ≡ family_image (stored_family w places labels) → record { answer = accepted n; image = b ++ drop n image } ≡ write w places labels image
      write_done b k =
          let l : length (family_image f) ≡ n = size_is ∙ sym g in
          let d : Written w places labels image n =
          record { sound = offered.sound; places_room = rooms.0; labels_room = rooms.1; legal = offered.legal; room = rw l h; value = l } in
          rw (write_leaves w places labels image n d, k, ← l) (unfold replaced in refl)
