-- What `solve` promises.
use Rattle.std.specs.Prelude.{◌≡◌, ◌≤◌, ◌^◌, ℕ, Bool, List, length, unsigned_abs, Option, Some, IfSome, Ok, [], ◌∷◌}
use Rattle.lop_tool.specs.Names.{World, NamedFile, CoreFields, is_optimal, solve_text, Format, Instance, Solution, Input}
use Rattle.lop_report.specs.declared.decimal.TheConstants.{MAX_DECIMALS}
use Rattle.lop_tool.specs.{Input.input_named, Input.IsOfSize, Search.Found, Search.found_of, Search.IsSearchOf}
use Rattle.lop_tool.specs.{Certificate.HasBegun, Certificate.LeavesCertificate, Steps.Steps, Steps.RefusesFirst}
use Rattle.lop_tool.specs.{Steps.NoMore}

-- the text of what was found in an instance
abbrev pub found_text : Instance → Found → List ℕ
found_text input x = solve_text input.weights input.profile input.decimals x.order x.value x.bound x.nodes

-- the file is accepted with this instance, this was found in its weights with the node budget, the text tells it, and
-- the certificate of the search is left under the name, if one is given
pub record Solves (format : Format) (file : List ℕ) (nodes : ℕ) (cert : Option (List ℕ)) (told : Option (List NamedFile)) (optimal : Bool) (text : List ℕ) (left : Option NamedFile) : Type 0 where
  pub input : Instance
  pub accepted_file : IfSome told (λ files. input_named format files file ≡ Some (Ok input))
  pub found : Found
  pub core : CoreFields
  pub search : IsSearchOf input.weights nodes found core
  pub optimal_is : optimal ≡ is_optimal found.value found.bound
  pub text_is : text ≡ found_text input found
  pub left_is : LeavesCertificate cert core left

-- it reads one file
abbrev pub solve_steps : Format → List ℕ → ℕ → Option (List ℕ) → Steps
solve_steps format file nodes cert = record {
  reads = file ∷ [];
  refuses = λ told refusal. IfSome told (λ files. RefusesFirst (input_named format files file) Input NoMore refusal);
  rejects = λ told rejection. ⊥;
  does = Solves format file nodes cert;
}

-- the reply: its text, and whether value and bound are the same
abbrev pub solution_text : Solution → List ℕ
solution_text x = found_text x.input (found_of x.core)

abbrev pub solution_optimal : Solution → Bool
solution_optimal x = is_optimal (found_of x.core).value (found_of x.core).bound

-- the reply is a search of the instance's weights with this budget, for a certificate under this name
pub record SolvesInstance (input : Instance) (nodes : ℕ) (cert : Option (List ℕ)) (x : Solution) : Type 0 where
  pub input_is : x.input ≡ input
  pub cert_is : x.cert ≡ cert
  pub search : IsSearchOf input.weights nodes (found_of x.core) x.core

-- what leaving its file asks: the file was begun, if one is left, and the room for writing is large enough
abbrev pub CanLeave : Solution → Option World → Type 0
CanLeave x told = HasBegun x.cert told × (x.core.problem.budget ≤ x.names)

-- what printing asks of it
pub record IsPrintable (x : Solution) : Type 0 where
  pub same_n : length x.core.order ≡ x.input.weights.size
  pub value : unsigned_abs x.core.state.best ≤ 2 ^ 63
  pub of_size : IsOfSize x.input.weights.size x.input.profile
  pub decimals : x.input.decimals ≤ MAX_DECIMALS
