-- The answers, as bytes.
use Rattle.std.specs.Prelude.{ℕ, List, [], ◌++◌, codes, ℤ, pos, Option, None, Some}
use Rattle.lop_model.specs.Matrix.{Matrix, total}
use Rattle.lop_preflib.specs.Profile.{ProfileFields, votes}
use Rattle.lop_report.specs.Figures.{disagreements}
use Rattle.lop_report.specs.Lines.{number_line, decimal_line, order_line, status_line, check_status_line, linearity_line, rank_lines}

-- Value, bound and total are numbers of units of 10^-k, and are printed with k decimals.

-- the order and its two numbers
abbrev pub order_lines : ℕ → List ℕ → ℕ → ℤ → ℤ → List ℕ
order_lines n s k value bound =
    number_line (codes "objects ") (pos n) ++ (order_line s ++ (decimal_line (codes "value ") value k ++ decimal_line (codes "bound ") bound k))

-- what was spent, and how the value lies in the total
abbrev pub figure_lines : ℕ → ℤ → ℤ → ℕ → ℤ → List ℕ
figure_lines k value bound nodes total =
    status_line value bound ++ (number_line (codes "nodes ") (pos nodes) ++ (decimal_line (codes "total ") total k ++ linearity_line value total))

-- where there is a profile, how many voters gave it, and how often they disagree with the order
abbrev pub voter_lines : Option ProfileFields → ℤ → ℤ → List ℕ
voter_lines None value total = []
voter_lines (Some profile) value total = number_line (codes "voters ") (pos (votes profile.orders)) ++ number_line (codes "disagreements ") (disagreements value total)

-- where there is a profile, the names of the objects in order
abbrev pub ranking : Option ProfileFields → List ℕ → List ℕ
ranking None s = []
ranking (Some profile) s = rank_lines profile.names s

-- the answer of `solve` for an order s of the objects of C, and of the profile that C comes from, where it does
abbrev pub solve_text : Matrix → Option ProfileFields → ℕ → List ℕ → ℤ → ℤ → ℕ → List ℕ
solve_text C profile k s value bound nodes =
    order_lines C.size s k value bound ++ (figure_lines k value bound nodes (total C) ++ (voter_lines profile value (total C) ++ ranking profile s))

-- how a value lies in the total of n objects
abbrev pub value_lines : ℕ → ℕ → ℤ → ℤ → List ℕ
value_lines n k value total =
    number_line (codes "objects ") (pos n) ++ (decimal_line (codes "value ") value k ++ (decimal_line (codes "total ") total k ++ linearity_line value total))

-- the answer of `value` for an order of C's objects of this weight
abbrev pub value_text : Matrix → Option ProfileFields → ℕ → ℤ → List ℕ
value_text C profile k value = value_lines C.size k value (total C) ++ voter_lines profile value (total C)

-- the numbers of a search
abbrev pub bound_lines : ℕ → ℕ → ℤ → ℤ → List ℕ
bound_lines n k value bound =
    number_line (codes "objects ") (pos n) ++ (decimal_line (codes "value ") value k ++ (decimal_line (codes "bound ") bound k ++ status_line value bound))

-- the answer of `gen`: the seed, and how the search ended
abbrev pub gen_text : ℕ → Matrix → ℕ → ℤ → ℤ → ℕ → List ℕ
gen_text seed C k value bound nodes =
    number_line (codes "seed ") (pos seed) ++ (bound_lines C.size k value bound ++ (number_line (codes "nodes ") (pos nodes) ++ decimal_line (codes "total ") (total C) k))

-- the answer of `check` to a certificate that it accepts
abbrev pub accepted_text : ℕ → ℤ → ℤ → List ℕ
accepted_text k value bound =
    codes "accepted\n" ++ (decimal_line (codes "value ") value k ++ (decimal_line (codes "bound ") bound k ++ check_status_line value bound))
