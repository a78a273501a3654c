-- A table filled word by word. Assumes nothing.
use Prim.Native.Nat.{ℕ, suc, ◌+◌, ◌-◌, ◌^◌, ◌≤◌, ◌<◌}
use native.Mathlib.Omega.{arith}
use native.Mathlib.Numerals.{add-one}
use mathlib.Core.Path.{◌≡◌, refl, sym, ap, ◌∙◌}
use mathlib.Core.Bool.{false}
use mathlib.Core.List.{List, [], ◌∷◌, ◌++◌, append_assoc, map-append}
use lib.ListN.{length, get_or, take, drop, set, replicate, replicate-append-replicate}
use lib.Seq.{take-suc-set}
use Rattle.std.specs.Prelude.{Option, Some, None, map}
use Rattle.numbers.specs.Numbers.{value, is_number}
use Rattle.numbers.specs.Words.{words}
use Rattle.reading.specs.Reading.{tree_widths, fits}
use Rattle.numbers.specs.Cursor.{nothing, number_from}
use Rattle.reading.specs.Readers.{Taken, FilledBy}
use Rattle.numbers.proofs.Cursor.{Got, number_none}
use Rattle.reading.proofs.Fits.{narrow_number, wide_none, narrow_none, fits_split, fits_one, fits_none}

-- n + 1 + m entries of one width
replicate_split : (n m b : ℕ) → n < m → replicate m b ≡ replicate n b ++ b ∷ replicate (m - suc n) b
replicate_split n m b h = let e : n + suc (m - suc n) ≡ m = omega arith in sym (replicate-append-replicate n (suc (m - suc n)) b ∙ ap (λ k. replicate k b) e)

module _ (text : List ℕ) (at : ℕ) where
  -- no word is asked for
  pub taken_none : at ≤ length text → Taken text at [] [] at
  unfolding fits
  taken_none h = record { own = []; split = refl; fit = tt; told = refl; inside = h }

  module _ (bs es : List ℕ) (next : ℕ) (K : Taken text at bs es next) where
    -- more words, behind those
    pub taken_join : (cs fs : List ℕ) (after : ℕ) → Taken text next cs fs after → Taken text at (bs ++ cs) (es ++ fs) after
    taken_join cs fs after L =
        record {
          own = K.own ++ L.own;
          split = K.split ∙ rw (L.split, append_assoc K.own L.own (words (drop after text)));
          fit = rw (fits_split bs cs K.own L.own K.fit) L.fit;
          told = rw (K.told, L.told, map-append value K.own L.own);
          inside = L.inside;
        }

    -- what is asked for behind them is not there
    pub short_join : (cs : List ℕ) → ((more : List ℕ) → fits (cs ++ more) (words (drop next text)) ≡ false)
        → (more : List ℕ) → fits (bs ++ cs ++ more) (words (drop at text)) ≡ false
    short_join cs f more =
        rw (append_assoc bs cs more, K.split) (fits_split bs (cs ++ more) K.own (words (drop next text)) K.fit ∙ f more)

  -- what is asked for is not there, and so not with more behind it
  short_more : (bs cs : List ℕ) → ((more : List ℕ) → fits (bs ++ more) (words (drop at text)) ≡ false)
      → (more : List ℕ) → fits (bs ++ cs ++ more) (words (drop at text)) ≡ false
  short_more bs cs f more = rw (append_assoc bs cs more) (f (cs ++ more))

-- one number, and none
taken_one : (text : List ℕ) (at width v next : ℕ) → Got text at v next → v < 2 ^ width → Taken text at (width ∷ []) (v ∷ []) next
taken_one text at width v next G h =
    record {
      own = G.own ∷ [];
      split = G.split;
      fit = fits_one width G.own (narrow_number width G.own G.number (rw G.told at h));
      told = rw G.told;
      inside = G.inside;
    }

-- ---- one entry more, behind i entries of a table of n

module _ (text : List ℕ) (at width i next : ℕ) (es : List ℕ) (K : Taken text at (replicate i width) es next) where
  pub fill_more : (v after : ℕ) → Got text next v after → v < 2 ^ width → Taken text at (replicate (i + 1) width) (es ++ v ∷ []) after
  fill_more v after G h =
      rw (← replicate-append-replicate i 1 width)
      (taken_join text at (replicate i width) es next K (width ∷ []) (v ∷ []) after (taken_one text next width v after G h))

  module _ (n : ℕ) (l : i < n) where
    -- the next word is no number of the width
    short : is_number width (get_or (words (drop next text)) 0 []) ≡ false → (more : List ℕ) → fits (replicate n width ++ more) (words (drop at text)) ≡ false
    short e more =
        rw (replicate_split i n width l)
        (short_join text at (replicate i width) es next K (width ∷ replicate (n - suc i) width)
        (λ m. fits_none width (replicate (n - suc i) width ++ m) (words (drop next text)) e) more)

    pub fill_none : width ≤ 32 → nothing ≡ number_from text next → (more : List ℕ) → fits (replicate n width ++ more) (words (drop at text)) ≡ false
    fill_none h e = short (narrow_none width (get_or (words (drop next text)) 0 []) h (number_none text next e))

    pub fill_wide : (v after : ℕ) → Got text next v after → 2 ^ width ≤ v → (more : List ℕ) → fits (replicate n width ++ more) (words (drop at text)) ≡ false
    fill_wide v after G h = short (rw G.split (wide_none width G.own G.number (rw G.told at h)))

-- the first i + 1 numbers of a table whose entry i is set
pub numbers_more : {A : Type 0} (f : A → ℕ) (table : List A) (i : ℕ) (x : A) → i < length table
    → map f (take (i + 1) (set table i x)) ≡ map f (take i table) ++ f x ∷ []
numbers_more f table i x l = rw (add-one i, take-suc-set table i x l, map-append f (take i table) (x ∷ []))

-- ---- the two tables of a tree

module _ (text : List ℕ) (at : ℕ) (par tax : List ℕ) where
  abbrev n : ℕ
  n = length par

  -- the parents are not there
  pub tree_short : ((more : List ℕ) → fits (replicate n 16 ++ more) (words (drop at text)) ≡ false) → FilledBy None text at (tree_widths n) (par ++ tax)
  unfolding tree_widths
  tree_short f = short_more text at (replicate n 16) (replicate n 32) f

  -- they are, and the taxa are there behind them or not
  pub tree_filled : (r : Option ℕ) (next : ℕ) → length tax ≡ n → Taken text at (replicate n 16) par next → FilledBy r text next (replicate (length tax) 32) tax
      → FilledBy r text at (tree_widths n) (par ++ tax)
  unfolding tree_widths
  tree_filled r next e K f = go r (rw e at f)
    where
      go : (r : Option ℕ) → FilledBy r text next (replicate n 32) tax → FilledBy r text at (replicate n 16 ++ replicate n 32) (par ++ tax)
      go (Some after) L = taken_join text at (replicate n 16) par next K (replicate n 32) tax after L
      go None f = short_join text at (replicate n 16) par next K (replicate n 32) f
