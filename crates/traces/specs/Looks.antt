-- What a look at an entry answers, and what a show of a part of it. Assumes nothing.
use Rattle.std.specs.Prelude.{ℕ, zero, suc, Bool, true, false, cond, List, [], ◌∷◌, ◌++◌, ℤ, pos, Some, None, Option, ◌==◌}
use Rattle.traces.specs.Entries.{Run, SpanRow, LinkRow, EventRow, Typed, Tables}
use Rattle.traces.specs.Traces.{Held, ArrayValue, string, boolean, integer, double}

-- the entry of a number, if there is one
abbrev pub entry_of : {A : Type 0} → List A → ℕ → Option A
entry_of [] n = None
entry_of (x ∷ xs) zero = Some x
entry_of (x ∷ xs) (suc n) = entry_of xs n

abbrev pub told : {A B : Type 0} → (A → Option B) → Option A → Option B
told f None = None
told f (Some x) = f x

abbrev pub run_numbers : Run → List ℤ
run_numbers r = pos r.first ∷ pos r.count ∷ []

abbrev pub span_numbers : SpanRow → List ℤ
span_numbers r =
    pos r.trace_id ∷ pos r.span_id ∷ pos r.parent_id ∷ r.start ∷ r.duration ∷ r.error
    ∷ (run_numbers r.meta ++ (run_numbers r.metrics ++ (run_numbers r.meta_struct ++ (run_numbers r.span_links ++ run_numbers r.span_events))))

abbrev pub link_numbers : LinkRow → List ℤ
link_numbers r = pos r.trace_id ∷ pos r.trace_id_high ∷ pos r.span_id ∷ (run_numbers r.attributes ++ (pos r.flags ∷ []))

abbrev pub event_numbers : EventRow → List ℤ
event_numbers r = pos r.time_unix_nano ∷ run_numbers r.attributes

abbrev pub attribute_numbers : Held Typed → List ℤ
attribute_numbers x = pos x.value.kind ∷ run_numbers x.value.values

abbrev pub truth_number : Bool → ℤ
truth_number true = pos 1
truth_number false = pos 0

-- type numbers: 0 text, 1 truth, 2 integer, 3 double
abbrev pub value_numbers : ArrayValue → List ℤ
value_numbers (string t) = pos 0 ∷ []
value_numbers (boolean b) = pos 1 ∷ truth_number b ∷ []
value_numbers (integer z) = pos 2 ∷ z ∷ []
value_numbers (double b) = pos 3 ∷ pos b ∷ []

-- the tables that hold entries, by their numbers
pub data Table : Type 0 where
  traces : Table
  spans : Table
  texts : Table
  metrics : Table
  parts : Table
  links : Table
  events : Table
  attributes : Table
  values : Table

abbrev pub table_of : ℕ → Option Table
table_of n =
    cond (n == 1) (Some traces) (cond (n == 2) (Some spans) (cond (n == 3) (Some texts) (cond (n == 4) (Some metrics) (cond (n == 5) (Some parts)
    (cond (n == 6) (Some links) (cond (n == 7) (Some events) (cond (n == 8) (Some attributes) (cond (n == 9) (Some values) None))))))))

-- the numbers of an entry; a text pair and a byte part have none
abbrev pub look_in : Tables → ℕ → Table → Option (List ℤ)
look_in t n traces = told (λ r. Some (run_numbers r)) (entry_of t.traces n)
look_in t n spans = told (λ r. Some (span_numbers r)) (entry_of t.spans n)
look_in t n texts = told (λ x. Some []) (entry_of t.texts n)
look_in t n metrics = told (λ x. Some (pos x.value ∷ [])) (entry_of t.metrics n)
look_in t n parts = told (λ x. Some []) (entry_of t.parts n)
look_in t n links = told (λ r. Some (link_numbers r)) (entry_of t.links n)
look_in t n events = told (λ r. Some (event_numbers r)) (entry_of t.events n)
look_in t n attributes = told (λ x. Some (attribute_numbers x)) (entry_of t.attributes n)
look_in t n values = told (λ v. Some (value_numbers v)) (entry_of t.values n)

abbrev pub look_at : Tables → ℕ → ℕ → Option (List ℤ)
look_at t table n = told (look_in t n) (table_of table)

-- the texts and bytes of an entry, by the numbers of its parts
abbrev pub shown_texts : ArrayValue → List (List ℕ)
shown_texts (string t) = t ∷ []
shown_texts (boolean b) = []
shown_texts (integer z) = []
shown_texts (double b) = []

abbrev pub show_in : Tables → ℕ → ℕ → Table → Option (List ℕ)
show_in t n p traces = None
show_in t n p spans = told (λ r. entry_of (r.service ∷ r.name ∷ r.resource ∷ r.type ∷ []) p) (entry_of t.spans n)
show_in t n p texts = told (λ x. entry_of (x.key ∷ x.value ∷ []) p) (entry_of t.texts n)
show_in t n p metrics = told (λ x. entry_of (x.key ∷ []) p) (entry_of t.metrics n)
show_in t n p parts = told (λ x. entry_of (x.key ∷ x.value ∷ []) p) (entry_of t.parts n)
show_in t n p links = told (λ r. entry_of (r.tracestate ∷ []) p) (entry_of t.links n)
show_in t n p events = told (λ r. entry_of (r.name ∷ []) p) (entry_of t.events n)
show_in t n p attributes = told (λ x. entry_of (x.key ∷ []) p) (entry_of t.attributes n)
show_in t n p values = told (λ v. entry_of (shown_texts v) p) (entry_of t.values n)

abbrev pub show_at : Tables → ℕ → ℕ → ℕ → Option (List ℕ)
show_at t table n p = told (show_in t n p) (table_of table)
