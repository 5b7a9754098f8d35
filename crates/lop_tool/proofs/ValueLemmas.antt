-- How the steps of `value` come to its reply.
use Rattle.std.proofs.Common.{◌≡◌, ℕ, ◌≤◌, true, List, [], Option, None, Some, IfSome, IfOk, IfErr, Result, Ok, Err, refl, sym, ◌∙◌, ap, subst, ◌⊎◌, ◌∷◌}
use Rattle.std.specs.List.{Any}
use Rattle.lop_tool.specs.Names.{World, NamedFile, file_named, IsMissing, Value, Format, weight, value_text, Instance}
use Rattle.lop_tool.specs.Names.{OrderFileRefusal, Input, Order, Valuation, Stop, Refusal, Rose}
use Rattle.lop_tool.specs.{Status.done_status, Told.files_of, Told.at_rest, Input.input_named, Input.order_named}
use Rattle.lop_tool.specs.{Input.order_reading_of, Input.order_file_reading, Value.WeighsNamed, Value.valuation_text}
use Rattle.lop_tool.specs.{Value.OrderStop, Steps.RefusesFirst, Steps.NoMore, Steps.FileCause, Steps.NoRefusal}
use Rattle.lop_tool.specs.{Reply.IsAccepted, Reply.IsReply, Reply.done, Reply.IsRight, Ended.StopCause, Ended.NoFile}
use Rattle.lop_tool.proofs.Ends.{right_alone}
use Rattle.lop_tool.proofs.Stops.{told_files, told_both, told_before, stops_map, err_map, second_file}

-- what the bytes under a name are read as
pub named_order : {E : Type 0} (n : ℕ) (name : List ℕ) (told : Option World) (bytes : List ℕ) (r : Result (Result (List ℕ) OrderFileRefusal) E) → IfSome told (λ w. file_named w.files name ≡ Some bytes) → IfOk r (λ input. order_file_reading n bytes ≡ input)
    → IfOk r (λ input. IfSome told (λ w. order_named n w.files name ≡ Some input))
named_order n name None bytes (Ok input) there read = tt
named_order n name (Some w) bytes (Ok input) there read = ap (order_reading_of n) there ∙ ap (λ (x : Result (List ℕ) OrderFileRefusal). Some x) read
named_order n name told bytes (Err e) there read = tt

-- what an order file is refused for
pub refused_order : (n : ℕ) (name : List ℕ) (old : Option World) (e : OrderFileRefusal) → IfSome old (λ w. order_named n w.files name ≡ Some (Err e)) → IfSome old (λ w. RefusesFirst (order_named n w.files name) Order NoMore (Order e))
refused_order n name None e read = tt
refused_order n name (Some w) e read = subst (λ o. RefusesFirst o Order NoMore (Order e)) (sym read) refl

-- why the order file wasn't read
pub order_stop : (n : ℕ) (name : List ℕ) (old : Option World) (before now : ℕ) (s : Stop) → FileCause name old before now s → OrderStop n name old before now s
order_stop n name old before now s =
    let cause = IsMissing old name ⊎ Rose before now in stops_map NoRefusal (λ refusal. IfSome old (λ w. RefusesFirst (order_named n w.files name) Order NoMore refusal)) cause cause s (λ refusal none. absurd none) (λ c. c)

-- both files accepted are all that `value` reads
value_accepted : (format : Format) (file order_file : List ℕ) (input : Instance) (order : List ℕ) (files : List NamedFile) → input_named format files file ≡ Some (Ok input) → order_named input.weights.size files order_file ≡ Some (Ok order) → IsAccepted (Value format file order_file) files
value_accepted format file order_file input order files read ordered = record {
  unrefused = λ refusal refused.
      let next = subst (λ o. RefusesFirst o Input (λ i. RefusesFirst (order_named i.weights.size files order_file) Order NoMore) refusal) read refused in
      subst (λ o. RefusesFirst o Order NoMore refusal) ordered next;
  unrejected = λ rejection wrong. wrong;
}

value_done : (format : Format) (file order_file : List ℕ) (input : Instance) (old mid : Option World) (x : Valuation) → at_rest mid ≡ at_rest old → IfSome old (λ w. input_named format w.files file ≡ Some (Ok input)) → WeighsNamed input order_file mid x
    → IsReply (files_of old) (Some (Value format file order_file)) (done_status true) (valuation_text x) None
value_done format file order_file input old mid x same read weighs =
    let told : IfSome (files_of old) (λ files. input_named format files file ≡ Some (Ok input)) = told_files (λ files. input_named format files file ≡ Some (Ok input)) old read in
    let ordered : IfSome (files_of old) (λ files. order_named input.weights.size files order_file ≡ Some (Ok weighs.order)) = told_before (λ files. order_named input.weights.size files order_file ≡ Some (Ok weighs.order)) old mid same weighs.accepted_order in
    let text : valuation_text x ≡ value_text input.weights input.profile input.decimals (weight input.weights weighs.order) = ap (λ (i : Instance). value_text i.weights i.profile i.decimals x.value) weighs.input_is ∙ ap (value_text input.weights input.profile input.decimals) weighs.value_is in
    done true (told_both (λ files. input_named format files file ≡ Some (Ok input)) (λ files. order_named input.weights.size files order_file ≡ Some (Ok weighs.order)) (IsAccepted (Value format file order_file)) (files_of old) (value_accepted format file order_file input weighs.order) told ordered) (record {
      input = input;
      order = weighs.order;
      accepted_file = told;
      accepted_order = ordered;
      is_order = weighs.is_order;
      optimal_is = refl;
      text_is = text;
      left_is = refl;
    })

pub value_right : {E : Type 0} (format : Format) (file order_file : List ℕ) (input : Instance) (old mid : Option World) (r : Result Valuation E) → at_rest mid ≡ at_rest old → IfSome old (λ w. input_named format w.files file ≡ Some (Ok input)) → IfOk r (WeighsNamed input order_file mid)
    → IfOk r (λ x. IsRight (files_of old) (Some (Value format file order_file)) (done_status true) (valuation_text x) NoFile)
value_right format file order_file input old mid (Ok x) same read weighs = right_alone (files_of old) (Some (Value format file order_file)) (done_status true) (valuation_text x) (value_done format file order_file input old mid x same read weighs)
value_right format file order_file input old mid (Err e) same read weighs = tt

pub value_stops : (format : Format) (file order_file : List ℕ) (input : Instance) (old mid : Option World) (before between now : ℕ) (r : Result Valuation Stop) → at_rest mid ≡ at_rest old → before ≤ between → IfSome old (λ w. input_named format w.files file ≡ Some (Ok input)) → IfErr r (OrderStop input.weights.size order_file mid between now)
    → IfErr r (StopCause (Value format file order_file) old before now)
value_stops format file order_file input old mid before between now r same later read =
    let accepted : List NamedFile → Type 0 = λ files. input_named format files file ≡ Some (Ok input) in
    let refused : Refusal → List NamedFile → Type 0 = λ f files. RefusesFirst (order_named input.weights.size files order_file) Order NoMore f in
    let first : Refusal → List NamedFile → Type 0 = λ f files. RefusesFirst (input_named format files file) Input (λ i. RefusesFirst (order_named i.weights.size files order_file) Order NoMore) f in
    err_map (λ f. IfSome mid (λ w. refused f w.files)) (λ f. IfSome (files_of old) (first f)) (IsMissing mid order_file ⊎ Rose between now) (Any (IsMissing old) (file ∷ order_file ∷ []) ⊎ Rose before now) r
    (λ f cause. told_both accepted (refused f) (first f) (files_of old)
    (λ files is here. subst (λ o. RefusesFirst o Input (λ i. RefusesFirst (order_named i.weights.size files order_file) Order NoMore) f) (sym is) here) (told_files accepted old read) (told_before (refused f) old mid same cause))
    (second_file file order_file old mid before between now same later)
