-- What 13, 14 and 15 answer, test by test as code makes them. Assumes nothing.
use Rattle.std.specs.Prelude.{Err}
use Rattle.std.proofs.Common.{◌≡◌, ℕ, ◌*◌, ◌%◌, ◌<◌, ◌≤◌, true, false, eqb, leb, List, [], ◌∷◌, length, arith, eq-eqb, ne_eqb, le-leb}
use Rattle.std.proofs.Common.{sym, ap, ◌∙◌}
use borrow.Author.Tests.{lt-leb}
use Rattle.trees.specs.Lists.{lowest, pick}
use Rattle.trees.specs.Rulings.{accepted, refused, refused_by, ruling, verdict, Rule, whole, each, fine}
use Rattle.trees.specs.declared.Refusal.{Refusal}
use Rattle.trees.proofs.Bools.{true_T}
use Rattle.trees.proofs.Rulings.{ruling_pass, ruling_stays, ruling_accepted, every_head}
use Rattle.blocks.specs.Blocks.{part, checked, numbered, count}
use Rattle.blocks.specs.Image.{sized, block_rules}
use Rattle.blocks.specs.Blocks.{word}
use Rattle.blocks.specs.Answers.{framed_of}
use Rattle.blocks.specs.Answers.{Framed}
use Rattle.blocks.proofs.Both.{and_false}
use Rattle.blocks.proofs.Blocks.{numbered_part}
use Rattle.blocks.proofs.Searches.{Passed, passed_fails}

module _ {A : Type 0} (limit : ℕ) (s : List ℕ) (x : A) where
  abbrev rule14 : Rule
  rule14 = each 14 0 (count s) (λ j. checked (part s j))

  abbrev rule15 : Rule
  rule15 = each 15 0 (count s) (λ j. numbered j (part s j))

  refused_13 : sized limit s ≡ false → ruling (block_rules limit s) x ≡ refused 13 0 0
  unfolding ruling pick block_rules
  refused_13 e = rw e

  pub refused_empty : length s ≡ 0 → ruling (block_rules limit s) x ≡ refused 13 0 0
  unfolding sized
  refused_empty e = refused_13 (rw (lt-leb 1 (length s) (omega arith)))

  pub refused_odd : (length s % 512 ≡ 0 → ⊥) → ruling (block_rules limit s) x ≡ refused 13 0 0
  unfolding sized
  refused_odd e = refused_13 (and_false (leb 1 (length s)) _ (rw (ne_eqb (length s % 512) 0 e)))

  pub refused_long : limit < count s → ruling (block_rules limit s) x ≡ refused 13 0 0
  unfolding sized
  refused_long h = refused_13 (and_false (leb 1 (length s)) _ (and_false (eqb (length s % 512) 0) _ (lt-leb (count s) limit h)))

  module _ (p : length s ≡ 0 → ⊥) (q : length s % 512 ≡ 0) (r : count s ≤ limit) where
    passed_13 : sized limit s ≡ true
    unfolding sized
    passed_13 = rw (le-leb 1 (length s) (omega arith), eq-eqb (length s % 512) 0 q, le-leb (count s) limit r)

    past_13 : ruling (block_rules limit s) x ≡ ruling (rule14 ∷ rule15 ∷ []) x
    unfolding block_rules
    past_13 = ruling_pass (whole 13 0 0 (sized limit s)) (rule14 ∷ rule15 ∷ []) x (true_T passed_13)

    pub stopped_14 : (f : Refusal) → refused_by f ≡ verdict (rule14 ∷ []) → refused_by f ≡ ruling (block_rules limit s) x
    stopped_14 f e = sym (past_13 ∙ ruling_stays (rule14 ∷ []) (rule15 ∷ []) fine x f.number f.tree f.place (sym e))

    module _ (a : accepted fine ≡ verdict (rule14 ∷ [])) where
      past_14 : ruling (block_rules limit s) x ≡ ruling (rule15 ∷ []) x
      past_14 = past_13 ∙ ruling_pass rule14 (rule15 ∷ []) x (every_head (ruling_accepted (rule14 ∷ []) fine fine (sym a)).0)

      pub stopped_15 : (f : Refusal) → refused_by f ≡ verdict (rule15 ∷ []) → refused_by f ≡ ruling (block_rules limit s) x
      stopped_15 f e = sym (past_14 ∙ ruling_stays (rule15 ∷ []) [] fine x f.number f.tree f.place (sym e))

      pub none_refused : accepted fine ≡ verdict (rule15 ∷ []) → accepted x ≡ ruling (block_rules limit s) x
      unfolding ruling
      none_refused b = sym (past_14 ∙ ruling_pass rule15 [] x (every_head (ruling_accepted (rule15 ∷ []) fine fine (sym b)).0))

-- 13 as code hands it back, of an image of too many blocks
pub too_long : (limit : ℕ) (s : List ℕ) (r : Refusal) → r ≡ record { number = 13; tree = 0; place = 0 } → limit < count s → refused_by r ≡ ruling (block_rules limit s) (count s)
too_long limit s r e h = ap refused_by e ∙ sym (refused_long limit s (count s) h)
