-- Private to the functions that put a family: what each asks of its caller; nothing of it is part of a promise.
--   family_told w places labels == the two trees and all of the history's tables
--   TreeRoom, StoryRoom, TablesRoom <-> tables of one length, and room for them in s from word i on
--   ImageRoom f s <-> tables of one length for each tree, 2,047 entries at most, and s is as many bytes as the image of f
-- Assumes nothing.
use Rattle.std.specs.Prelude.{ℕ, ◌+◌, ◌*◌, ◌≤◌, ◌≡◌, List, length}
use Rattle.blocks.specs.Image.{fewest}
use Rattle.words.specs.Words.{Within}
use Rattle.trees.specs.Tables.{Pair}
use Rattle.families.specs.Families.{Family, family, word_count, Even}

abbrev pub family_told : Pair → List ℕ → List ℕ → Family
family_told w places labels = family w.sp w.st w.gp w.gt places labels

pub record TreeRoom (par tax s : List ℕ) (i : ℕ) : Type 0 where
  pub even : length tax ≡ length par
  pub within : Within s i (3 * length par)

pub record StoryRoom (places labels s : List ℕ) (i : ℕ) : Type 0 where
  pub even : length labels ≡ length places
  pub within : Within s i (2 * length places)

pub record TablesRoom (f : Family) (s : List ℕ) (i : ℕ) : Type 0 where
  pub even : Even f
  pub within : Within s i (3 * length f.sp + 5 * length f.gp)

pub record ImageRoom (f : Family) (s : List ℕ) : Type 0 where
  pub even : Even f
  pub species_few : length f.sp ≤ 2047
  pub genes_few : length f.gp ≤ 2047
  pub size : length s ≡ 512 * fewest (word_count (length f.sp) (length f.gp))
