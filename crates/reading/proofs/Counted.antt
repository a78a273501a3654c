-- The two counts: what reading them says of their rules. Assumes nothing.
use Prim.Native.Nat.{ℕ, ◌≤◌, ◌<◌}
use mathlib.Core.Path.{◌≡◌, refl, sym, ap, ◌∙◌}
use mathlib.Core.Bool.{Bool, false, ◌&&◌}
use mathlib.Core.List.{List, [], ◌∷◌}
use lib.ListN.{length, get_or, drop}
use lib.Dec.{T, leb, leb→le, le→leb}
use borrow.Author.Tests.{lt-leb}
use Rattle.std.specs.Prelude.{Option, Some, None}
use Rattle.numbers.specs.Promises.{ReadNumberMeets}
use Rattle.numbers.specs.declared.Number.{Number}
use Rattle.trees.specs.Rulings.{whole, refused, verdict, fine, number_of, tree_of, done, and}
use Rattle.trees.proofs.Bools.{and_both, and_right}
use Rattle.trees.proofs.Rulings.{ruling_pass, ruling_fail}
use Rattle.numbers.specs.Numbers.{value, is_number}
use Rattle.numbers.specs.Words.{words}
use Rattle.reading.specs.Reading.{word, species_count, gene_count, counted, count_rules}
use Rattle.reading.specs.Readers.{SizesRead}
use Rattle.numbers.proofs.Digits.{and_false}
use Rattle.numbers.proofs.Cursor.{Got, number_got, number_none}

-- a number was read, or none
module _ (text : List ℕ) (at : ℕ) (o : Option Number) where
  pub read_some : (n : Number) → at ≤ length text → ReadNumberMeets text at o → o ≡ Some n → Got text at n.value n.next
  read_some n h m e = number_got text at n.value n.next h (rw e at m)

  pub read_none : ReadNumberMeets text at o → o ≡ None → is_number 32 (get_or (words (drop at text)) 0 []) ≡ false
  read_none m e = number_none text at (rw e at m)

pub counted_few : (n : ℕ) → T (counted n) → n ≤ 2047
unfolding counted
counted_few n t = leb→le n 2047 (and_right (leb 1 n) (leb n 2047) t)

module _ (text : List ℕ) where
  pub count_long : 49152 < length text → verdict (count_rules text) ≡ refused 20 0 0
  unfolding count_rules number_of tree_of
  count_long h = ruling_fail (whole 20 0 0 (leb (length text) 49152)) _ fine 0 (refl, lt-leb (length text) 49152 h)

  module _ (z : length text ≤ 49152) where
    abbrev both : Bool
    both = is_number 32 (word text 0) && is_number 32 (word text 1)

    past_length : verdict (count_rules text) ≡ verdict (whole 20 0 0 both ∷ whole 1 1 0 (counted (species_count text)) ∷ whole 1 2 0 (counted (gene_count text)) ∷ [])
    unfolding count_rules
    past_length = ruling_pass (whole 20 0 0 (leb (length text) 49152)) _ fine (le→leb (length text) 49152 z)

    malformed : both ≡ false → verdict (count_rules text) ≡ refused 20 0 0
    unfolding number_of tree_of
    malformed e = past_length ∙ ruling_fail (whole 20 0 0 both) _ fine 0 (refl, e)

    -- the first count is missing or malformed, or then the second
    pub count_first : is_number 32 (get_or (words text) 0 []) ≡ false → verdict (count_rules text) ≡ refused 20 0 0
    unfolding word
    count_first e = malformed (rw e)

    module _ (p a : ℕ) (G : Got text 0 p a) where
      first_is : word text 0 ≡ G.own
      unfolding word
      first_is = ap (λ ws. get_or ws 0 []) G.split

      second_is : word text 1 ≡ get_or (words (drop a text)) 0 []
      unfolding word
      second_is = ap (λ ws. get_or ws 1 []) G.split

      species_is : p ≡ species_count text
      unfolding species_count
      species_is = G.told ∙ ap value (sym first_is)

      pub count_second : is_number 32 (get_or (words (drop a text)) 0 []) ≡ false → verdict (count_rules text) ≡ refused 20 0 0
      count_second e = malformed (rw (second_is, e) (and_false (is_number 32 (word text 0))))

      module _ (q b : ℕ) (H : Got text a q b) where
        second_own : word text 1 ≡ H.own
        second_own = second_is ∙ ap (λ ws. get_or ws 0 []) H.split

        genes_is : q ≡ gene_count text
        unfolding gene_count
        genes_is = H.told ∙ ap value (sym second_own)

        both_right : T both
        both_right = and_both (is_number 32 (word text 0)) (is_number 32 (word text 1)) (rw first_is G.number) (rw second_own H.number)

        past_both : verdict (count_rules text) ≡ verdict (whole 1 1 0 (counted (species_count text)) ∷ whole 1 2 0 (counted (gene_count text)) ∷ [])
        past_both = past_length ∙ ruling_pass (whole 20 0 0 both) _ fine both_right

        pub count_species : counted p ≡ false → verdict (count_rules text) ≡ refused 1 1 0
        unfolding number_of tree_of
        count_species e = past_both ∙ ruling_fail (whole 1 1 0 (counted (species_count text))) _ fine 0 (refl, rw species_is at e)

        module _ (c : T (counted p)) where
          pub count_genes : counted q ≡ false → verdict (count_rules text) ≡ refused 1 2 0
          unfolding number_of tree_of
          count_genes e =
              past_both ∙ ruling_pass (whole 1 1 0 (counted (species_count text))) _ fine (rw species_is at c)
              ∙ ruling_fail (whole 1 2 0 (counted (gene_count text))) [] fine 0 (refl, rw genes_is at e)

          pub count_right : T (counted q) → SizesRead text p q b
          unfolding count_rules
          count_right d =
              record {
                passed = and (le→leb (length text) 49152 z) (and both_right (and (rw species_is at c) (and (rw genes_is at d) done)));
                species = species_is;
                genes = genes_is;
                p_few = counted_few p c;
                q_few = counted_few q d;
                rest = sym (ap (λ ws. drop 2 ws) (G.split ∙ ap (λ ws. G.own ∷ ws) H.split));
                inside = H.inside;
              }
