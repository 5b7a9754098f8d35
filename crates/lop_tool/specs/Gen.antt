-- What `gen` promises.
use Rattle.std.specs.Prelude.{◌≡◌, ℕ, Bool, List, Option, None, []}
use Rattle.lop_gen.specs.Generated.{generated_matrix}
use Rattle.lop_tool.specs.Names.{NamedFile, CoreFields, is_optimal, gen_text, Generation}
use Rattle.lop_tool.specs.{Search.Found, Search.found_of, Search.IsSearchOf, Steps.Steps}

-- this was found in the weights that the seed gives with ten nodes at most, and the text tells its numbers, which are whole
pub record Generates (seed n : ℕ) (optimal : Bool) (text : List ℕ) (left : Option NamedFile) : Type 0 where
  pub found : Found
  pub core : CoreFields
  pub search : IsSearchOf (generated_matrix seed n) 10 found core
  pub optimal_is : optimal ≡ is_optimal found.value found.bound
  pub text_is : text ≡ gen_text seed (generated_matrix seed n) 0 found.value found.bound found.nodes
  pub left_is : left ≡ None

-- it reads no file
abbrev pub gen_steps : ℕ → ℕ → Steps
gen_steps seed n = record { reads = []; refuses = λ told refusal. ⊥; rejects = λ told rejection. ⊥; does = λ told. Generates seed n }

-- the reply: its text, and whether value and bound are the same
abbrev pub generation_text : Generation → List ℕ
generation_text x = gen_text x.seed x.core.problem.weights 0 x.core.state.best (found_of x.core).bound x.core.state.evaluated

abbrev pub generation_optimal : Generation → Bool
generation_optimal x = is_optimal (found_of x.core).value (found_of x.core).bound

-- the reply is a search of the weights that the seed gives
pub record IsGenerated (seed n : ℕ) (x : Generation) : Type 0 where
  pub seed_is : x.seed ≡ seed
  pub search : IsSearchOf (generated_matrix seed n) 10 (found_of x.core) x.core
