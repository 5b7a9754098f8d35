-- What `value` promises.
use Rattle.std.specs.Prelude.{◌≡◌, ◌≤◌, ◌^◌, unsigned_abs, ℕ, Bool, true, List, Option, None, Some, IfSome, Ok, [], ◌∷◌, ◌⊎◌}
use Rattle.lop_tool.specs.Names.{World, NamedFile, IsOrder, weight, value_text, Format, Instance, Valuation, Input, Order}
use Rattle.lop_tool.specs.Names.{Stop, Rose, IsMissing}
use Rattle.lop_report.specs.declared.decimal.TheConstants.{MAX_DECIMALS}
use Rattle.lop_tool.specs.Input.{input_named, order_named}
use Rattle.lop_tool.specs.Steps.{Steps, RefusesFirst, NoMore, StopsFor}

-- the file is accepted with this input and the other file with an order of its objects, and the text tells its weight
pub record Weighs (format : Format) (file order_file : List ℕ) (told : Option (List NamedFile)) (optimal : Bool) (text : List ℕ) (left : Option NamedFile) : Type 0 where
  pub input : Instance
  pub order : List ℕ
  pub accepted_file : IfSome told (λ files. input_named format files file ≡ Some (Ok input))
  pub accepted_order : IfSome told (λ files. order_named input.weights.size files order_file ≡ Some (Ok order))
  pub is_order : IsOrder input.weights.size order
  pub optimal_is : optimal ≡ true
  pub text_is : text ≡ value_text input.weights input.profile input.decimals (weight input.weights order)
  pub left_is : left ≡ None

-- it reads two files: the order's is refused by the number of objects of the first
abbrev pub value_steps : Format → List ℕ → List ℕ → Steps
value_steps format file order_file = record {
  reads = file ∷ order_file ∷ [];
  refuses = λ told refusal. IfSome told (λ files. RefusesFirst (input_named format files file) Input
      (λ input. RefusesFirst (order_named input.weights.size files order_file) Order NoMore) refusal);
  rejects = λ told rejection. ⊥;
  does = Weighs format file order_file;
}

-- the reply's text
abbrev pub valuation_text : Valuation → List ℕ
valuation_text x = value_text x.input.weights x.input.profile x.input.decimals x.value

-- what printing asks of it
pub record IsPrintableValue (x : Valuation) : Type 0 where
  pub value : unsigned_abs x.value ≤ 2 ^ 63
  pub decimals : x.input.decimals ≤ MAX_DECIMALS

-- the reply is the weight of the order under a name
pub record WeighsNamed (input : Instance) (name : List ℕ) (told : Option World) (x : Valuation) : Type 0 where
  pub input_is : x.input ≡ input
  pub order : List ℕ
  pub is_order : IsOrder input.weights.size order
  pub accepted_order : IfSome told (λ w. order_named input.weights.size w.files name ≡ Some (Ok order))
  pub value_is : x.value ≡ weight input.weights order

-- why there is no order of n objects: the one under the name is refused, or it wasn't read
abbrev pub OrderStop : ℕ → List ℕ → Option World → ℕ → ℕ → Stop → Type 0
OrderStop n name old before now =
    StopsFor (λ refusal. IfSome old (λ w. RefusesFirst (order_named n w.files name) Order NoMore refusal)) (IsMissing old name ⊎ Rose before now)
