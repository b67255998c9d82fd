-- Which markers begin which items. Assumes nothing.
use Rattle.std.specs.Prelude.{Bool, true, false}
use Rattle.msgpack.specs.declared.marker.Marker.{Marker}
use Rattle.msgpack.specs.declared.marker.Marker.TheVariants as marker_kind
use Rattle.items.specs.declared.head.Kind.{Kind}
use Rattle.items.specs.declared.head.Kind.TheVariants as kind
use Rattle.items.specs.Items.{same_kind}

abbrev pub begins_number : Marker → Bool
begins_number (marker_kind.PositiveFixint b) = true
begins_number (marker_kind.FixMap n) = false
begins_number (marker_kind.FixArray n) = false
begins_number (marker_kind.FixStr n) = false
begins_number marker_kind.Nil = false
begins_number marker_kind.NeverUsed = false
begins_number marker_kind.False = false
begins_number marker_kind.True = false
begins_number (marker_kind.Bin w) = false
begins_number (marker_kind.Ext w) = false
begins_number (marker_kind.Float w) = true
begins_number (marker_kind.Uint w) = true
begins_number (marker_kind.Int w) = true
begins_number (marker_kind.FixExt n) = false
begins_number (marker_kind.Str w) = false
begins_number (marker_kind.Array w) = false
begins_number (marker_kind.Map w) = false
begins_number (marker_kind.NegativeFixint b) = true

-- a length of the kind
abbrev pub begins_length : Kind → Marker → Bool
begins_length k (marker_kind.PositiveFixint b) = false
begins_length k (marker_kind.FixMap n) = same_kind kind.Map k
begins_length k (marker_kind.FixArray n) = same_kind kind.Array k
begins_length k (marker_kind.FixStr n) = same_kind kind.Text k
begins_length k marker_kind.Nil = false
begins_length k marker_kind.NeverUsed = false
begins_length k marker_kind.False = false
begins_length k marker_kind.True = false
begins_length k (marker_kind.Bin w) = same_kind kind.Bytes k
begins_length k (marker_kind.Ext w) = false
begins_length k (marker_kind.Float w) = false
begins_length k (marker_kind.Uint w) = false
begins_length k (marker_kind.Int w) = false
begins_length k (marker_kind.FixExt n) = false
begins_length k (marker_kind.Str w) = same_kind kind.Text k
begins_length k (marker_kind.Array w) = same_kind kind.Array k
begins_length k (marker_kind.Map w) = same_kind kind.Map k
begins_length k (marker_kind.NegativeFixint b) = false

abbrev pub begins_truth : Marker → Bool
begins_truth (marker_kind.PositiveFixint b) = false
begins_truth (marker_kind.FixMap n) = false
begins_truth (marker_kind.FixArray n) = false
begins_truth (marker_kind.FixStr n) = false
begins_truth marker_kind.Nil = false
begins_truth marker_kind.NeverUsed = false
begins_truth marker_kind.False = true
begins_truth marker_kind.True = true
begins_truth (marker_kind.Bin w) = false
begins_truth (marker_kind.Ext w) = false
begins_truth (marker_kind.Float w) = false
begins_truth (marker_kind.Uint w) = false
begins_truth (marker_kind.Int w) = false
begins_truth (marker_kind.FixExt n) = false
begins_truth (marker_kind.Str w) = false
begins_truth (marker_kind.Array w) = false
begins_truth (marker_kind.Map w) = false
begins_truth (marker_kind.NegativeFixint b) = false
