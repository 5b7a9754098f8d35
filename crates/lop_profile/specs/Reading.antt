-- The weights that a profile means.
use Rattle.std.specs.Prelude.{◌≡◌, int_lt, Result, Ok, Err, if◌then◌else◌}
use Rattle.lop_model.specs.declared.weights.TheConstants.{MAX_ABSOLUTE_SUM}
use Rattle.lop_model.specs.Matrix.{Matrix, total}
use Rattle.lop_preflib.specs.Profile.{ProfileFields}
use Rattle.lop_profile.specs.Preference.{preference_matrix}
use Rattle.lop_profile.specs.declared.profile.ProfileFault.{ProfileFault}
use Rattle.lop_profile.specs.declared.profile.ProfileFault.TheVariants.{TooHeavy, Memory}

-- the matrix, where its entries sum to at most 10^18
abbrev pub weighed : Matrix → Result Matrix ProfileFault
weighed C = if int_lt MAX_ABSOLUTE_SUM (total C) then Err (TooHeavy (total C)) else Ok C

-- the weights of a profile, or why they are refused
abbrev pub profile_reading : ProfileFields → Result Matrix ProfileFault
profile_reading profile = weighed (preference_matrix profile)

-- Want of memory may come with any profile. Every other fault is the profile's.
abbrev pub IsFault : Result Matrix ProfileFault → ProfileFault → Type 0
IsFault reading Memory = Unit {0}
IsFault reading fault = reading ≡ Err fault
