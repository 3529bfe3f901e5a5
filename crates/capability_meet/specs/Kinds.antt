-- How two kinds of values stand to each other in the order.
use Rattle.json_text.specs.declared.kind.Kind.{Kind}
use Rattle.json_text.specs.declared.kind.Kind.TheVariants as kind
use Rattle.capability_meet.specs.declared.kinds.Pair.{Pair}
use Rattle.capability_meet.specs.declared.kinds.Pair.TheVariants as pair

abbrev pub pair_of : Kind → Kind → Pair
pair_of kind.Null l = pair.Least
pair_of kind.False l = pair.Least
pair_of kind.True l = pair.Others
pair_of kind.Number l = pair.Others
pair_of kind.Text l = pair.Others
pair_of kind.Array kind.Array = pair.Arrays
pair_of kind.Array kind.Null = pair.Others
pair_of kind.Array kind.False = pair.Others
pair_of kind.Array kind.True = pair.Others
pair_of kind.Array kind.Number = pair.Others
pair_of kind.Array kind.Text = pair.Others
pair_of kind.Array kind.Object = pair.Others
pair_of kind.Object kind.Object = pair.Objects
pair_of kind.Object kind.Null = pair.Others
pair_of kind.Object kind.False = pair.Others
pair_of kind.Object kind.True = pair.Others
pair_of kind.Object kind.Number = pair.Others
pair_of kind.Object kind.Text = pair.Others
pair_of kind.Object kind.Array = pair.Others
