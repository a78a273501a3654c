-- The tests behind refusals 1 to 6 and 38, and their order.             (01, "Refusal numbers", with 2 and 38 as 02's W8 has them)
--   sized par tax     == 1: neither empty nor over 2,047, and the two agree in length
--   parented par i    == 2: "a parent not under n or a second root, at the lowest such node"
--   topped par        == 2: "else no root, at 65,535"
--   reaching par i    == 38: "a node that never reaches the root"
--   paired par i      == 3: "node has neither 0 nor 2 children"
--   marked par tax i  == 4: "leaf has taxon 0 or inner node another"
--   fresh sp st i     == 5: "species leaf's taxon stands at a lower leaf too"
--   known w x         == 6: "gene leaf's taxon isn't a species taxon"
--   root_rules, child_rules, shape_rules, species_rules, family_rules, gene_rules, pair_rules == the rules in 01's order
-- Each is the test that holds where nothing is refused. A second root is a root with another at a lower number; a line has at most n
-- nodes, and a node that reaches the root does so within them (`reaching_is`, proofs/Reach.antt). Assumes nothing.
use Rattle.std.specs.Prelude.{ℕ, Bool, ◌&&◌, ◌||◌, not, List, [], ◌∷◌, ◌++◌, length, eqb, ltb, leb}
use Rattle.trees.specs.Lists.{range, any, pick}
use Rattle.trees.specs.Trees.{none, up, is_root, line, nodes, kids, is_leaf}
use Rattle.trees.specs.Tables.{taxon, Pair}
use Rattle.trees.specs.Rulings.{Rule, whole, each}

unfoldable pub sized : List ℕ → List ℕ → Bool
sized par tax = (leb 1 (length par) && leb (length par) 2047) && eqb (length tax) (length par)

unfoldable pub parented : List ℕ → ℕ → Bool
parented par i = ltb (up par i) (length par) || (is_root par i && not (any (is_root par) (range 0 i)))

unfoldable pub topped : List ℕ → Bool
topped par = any (is_root par) (nodes par)

unfoldable pub reaching : List ℕ → ℕ → Bool
reaching par i = any (is_root par) (line par i)

unfoldable pub paired : List ℕ → ℕ → Bool
paired par i = eqb (length (kids par i)) 0 || eqb (length (kids par i)) 2

unfoldable pub marked : List ℕ → List ℕ → ℕ → Bool
marked par tax i = pick (is_leaf par i) (not (eqb (taxon tax i) 0)) (eqb (taxon tax i) 0)

unfoldable pub fresh : List ℕ → List ℕ → ℕ → Bool
fresh sp st i = not (is_leaf sp i && any (λ j. is_leaf sp j && eqb (taxon st j) (taxon st i)) (range 0 i))

unfoldable pub known : Pair → ℕ → Bool
known w x = not (is_leaf w.gp x) || any (λ s. is_leaf w.sp s && eqb (taxon w.st s) (taxon w.gt x)) (nodes w.sp)

-- 2 and 38 of the tree t
unfoldable pub root_rules : ℕ → List ℕ → List Rule
root_rules t par =
    each 2 t (length par) (parented par)
    ∷ whole 2 t none (topped par)
    ∷ each 38 t (length par) (reaching par)
    ∷ []

-- 3 and 4 of the tree t
unfoldable pub child_rules : ℕ → List ℕ → List ℕ → List Rule
child_rules t par tax = each 3 t (length par) (paired par) ∷ each 4 t (length par) (marked par tax) ∷ []

-- 2, 38, 3, 4 of the tree t
unfoldable pub shape_rules : ℕ → List ℕ → List ℕ → List Rule
shape_rules t par tax = root_rules t par ++ child_rules t par tax

unfoldable pub species_rules : List ℕ → List ℕ → List Rule
species_rules sp st = whole 1 1 0 (sized sp st) ∷ shape_rules 1 sp st ++ each 5 1 (length sp) (fresh sp st) ∷ []

-- the rules of a gene tree that also hold on a load, which does not test 1
unfoldable pub family_rules : Pair → List Rule
family_rules w = shape_rules 2 w.gp w.gt ++ each 6 2 (length w.gp) (known w) ∷ []

unfoldable pub gene_rules : Pair → List Rule
gene_rules w = whole 1 2 0 (sized w.gp w.gt) ∷ family_rules w

-- "Order: species 1-5, gene 1, 2, 3, 4, 6", with 38 "after 2 and before 3"
unfoldable pub pair_rules : Pair → List Rule
pair_rules w = species_rules w.sp w.st ++ gene_rules w
