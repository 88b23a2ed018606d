-- The filters of a host, by name.
--     last_named name es      what stands under the name, the last of it
--     host_answer      what is answered where a call names what stands there
use Rattle.std.specs.Borrow.{Bor}
use Rattle.std.specs.Option.{option_map_or}
use Rattle.std.specs.Prelude.{ℕ, Bool, cond, nat_le, List, [], ◌∷◌, length, Option, Some, None}
use Rattle.std.specs.Prelude.{Result, Ok, Err, String, string_bytes}
use Rattle.std.specs.declared.alloc.Global.{Global}
use Rattle.liquid_model.specs.Texts.{Text, same_text, ◌else◌}
use Rattle.liquid_model.specs.Data.{Datum}
use Rattle.liquid_model.specs.FilterAnswers.{FilterAnswer}
use Rattle.liquid_core.specs.declared.host_filters.HostFilters.{HostFilters}
use Rattle.liquid_model.specs.ErrorKinds.{number_of}
use Rattle.liquid_model.specs.declared.error.ErrorKind.{ErrorKind}
use Rattle.liquid_model.specs.declared.error.ErrorKind.TheVariants.{InvalidInput, Unsupported}

-- the later of one name counts
abbrev pub last_named : {X : Type 0} → Text → List (String Global × X) → Option X
last_named name [] = None
last_named name (e ∷ es) = last_named name es else cond (same_text (string_bytes e.0) name)
    (Some e.1) None

-- a kind that no run has is InvalidInput
abbrev pub as_of_run : ErrorKind → ErrorKind
as_of_run kind = cond (nat_le (number_of kind) 17) kind InvalidInput

abbrev pub of_host : Result Datum ErrorKind → Result Datum ErrorKind
of_host (Ok d) = Ok d
of_host (Err kind) = Err (as_of_run kind)

-- where no filter of the name accepts the number of arguments it is Unsupported
abbrev pub host_answer : {X : Type 0} → (X → ℕ → Bool) → (X → FilterAnswer) → Option X →
    FilterAnswer
host_answer counts answer None d ds = Err Unsupported
host_answer counts answer (Some x) d ds = cond (counts x (length ds)) (of_host (answer x d ds))
    (Err Unsupported)

-- without filters of a host
abbrev pub no_host : Text → FilterAnswer
no_host name d ds = Err Unsupported

-- what filters of a host answer by name, by the members of those that are boxed, where there are
-- some
abbrev pub named_by : {D : Type 0} {P : D → Type 0} → ((x : D) × P x → ℕ → Bool) →
    ((x : D) × P x → FilterAnswer) → Option (Bor (HostFilters D P)) → Text → FilterAnswer
named_by counts answer filters name =
    option_map_or (λ h. host_answer (λ b. counts (b.vtable, b.value))
    (λ b. answer (b.vtable, b.value)) (last_named name h.now.filters.items)) filters
    (λ d ds. Err Unsupported)
