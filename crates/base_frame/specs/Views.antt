-- What the code's values stand for.
use Rattle.base_frame.specs.declared.front.Found.{Found}
use Rattle.base_frame.specs.declared.front.Found.TheVariants.{Whole, Fault, Short}
use Rattle.base_frame.specs.Machine.{Front, whole, fault, short}

abbrev pub found_view : Found → Front
found_view (Whole c more) = whole c.now more.now
found_view (Fault at why) = fault at why
found_view Short = short
