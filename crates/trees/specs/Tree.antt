-- The syntax tree of a payload: every field as often and in the order as it came. Assumes nothing.
use Rattle.std.specs.Prelude.{ℕ, Bool, List, ℤ, Option}
use Rattle.items.specs.Items.{Piece}
use Rattle.items.specs.Parts.{Shown}
use Rattle.trees.specs.declared.keys.TextKey.{TextKey}
use Rattle.trees.specs.declared.keys.IdKey.{IdKey}
use Rattle.trees.specs.declared.keys.SignedKey.{SignedKey}
use Rattle.trees.specs.declared.keys.PairKey.{PairKey}
use Rattle.trees.specs.declared.keys.LinkIdKey.{LinkIdKey}

-- a single value of an attribute
pub data Single : Type 0 where
  string : Piece → Single
  truth : Bool → Single
  whole : ℤ → Single
  double : ℕ → Single

abbrev pub type_number : Single → ℕ
type_number (string p) = 0
type_number (truth b) = 1
type_number (whole z) = 2
type_number (double b) = 3

-- a field of an element, or of an attribute whose value is no array: a type number, or a value
pub data ElementField : Type 0 where
  given : ℕ → ElementField
  value : Single → ElementField

-- an element of an array
pub data Element : Type 0 where
  element : ElementField → ElementField → Element

pub data AttributeField : Type 0 where
  plain : ElementField → AttributeField
  array : List Element → AttributeField

-- an attribute of an event
pub data Attribute : Type 0 where
  attribute : Piece → AttributeField → AttributeField → Attribute

-- a key with its value; none for null
pub data Pair : Type 0 where
  pair : Shown → Option Shown → Pair

pub data LinkField : Type 0 where
  link_id : LinkIdKey → ℤ → LinkField
  link_attributes : List Pair → LinkField
  tracestate : Piece → LinkField
  flags : ℤ → LinkField

pub data EventField : Type 0 where
  time : ℤ → EventField
  event_name : Piece → EventField
  event_attributes : List Attribute → EventField

pub data SpanField : Type 0 where
  text : TextKey → Option Shown → SpanField
  id : IdKey → ℤ → SpanField
  signed : SignedKey → ℤ → SpanField
  pairs : PairKey → List Pair → SpanField
  links : List (List LinkField) → SpanField
  events : List (List EventField) → SpanField

-- traces of spans
abbrev pub Payload : Type 0
Payload = List (List (List SpanField))

-- the texts of a v05 payload, and the traces that name them
pub record Indexed : Type 0 where
  pub dictionary : List Piece
  pub traces : Payload
