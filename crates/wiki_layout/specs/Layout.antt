-- Which bytes are a layout, which rule others break first, and what a layout says.
-- A document is a list of members, each a key with its value; a value may have members of its own.
use Rattle.std.specs.Prelude.{ℕ, suc, Bool, true, false, not, ◌&&◌, ◌||◌, if◌then◌else◌, List, [], ◌∷◌, length, Option, Some, None, option_and_then, is_some, Result, Ok, Err, ℤ, pos, negsuc, codes, nat_lt, nat_le, bytes_eq}
use Rattle.std.specs.List.{list_any}
use Rattle.std.specs.Str.{is_utf8}
use Rattle.toml.specs.Data.{Data, Items, no_items, item, Members, no_members, member, get_member, get, as_integer, as_array, as_table}
use Rattle.toml.specs.Parse.{parse_document}
use Rattle.wiki_model.specs.Bytes.{Bytes}
use Rattle.wiki_model.specs.Limits.{Bounds, default_bounds, greatest_moment, replicas_max, weight_max, bound_max, layout_max, slots_min, slots_max, slots_default, workers_max, pace_max}
use Rattle.wiki_model.specs.declared.Region.{Region}
use Rattle.wiki_model.specs.Titles.{Title}
use Rattle.wiki_model.specs.World.{Setting}
use Rattle.wiki_layout.specs.declared.rules.Rule.{Rule}
use Rattle.wiki_layout.specs.declared.rules.Rule.TheVariants.{Names, Kinds, Ranges}

-- What may stand at a key: a number in a range, or the weights of a region's replicas

pub data Kind : Type 0 where
  Number : (least greatest : ℕ) → Kind
  Weights : Kind

abbrev pub region_kind : (key : Bytes) → Option Kind
region_kind key =
    if bytes_eq key (codes "weights") then Some Weights
    else (if bytes_eq key (codes "slots") then Some (Number slots_min slots_max)
    else None)

abbrev pub farm_kind : (key : Bytes) → Option Kind
farm_kind key =
    if bytes_eq key (codes "epoch") then Some (Number 0 greatest_moment)
    else (if bytes_eq key (codes "workers") then Some (Number 1 workers_max)
    else (if bytes_eq key (codes "pace") then Some (Number 1 pace_max)
    else (if bytes_eq key (codes "commit_delay") then Some (Number 0 bound_max)
    else (if bytes_eq key (codes "read_lag") then Some (Number 0 bound_max)
    else (if bytes_eq key (codes "skew") then Some (Number 1 bound_max)
    else None)))))

abbrev pub is_region : (name : Bytes) → Bool
is_region name = bytes_eq name (codes "home") || bytes_eq name (codes "west")

-- the kind that stands at a key of a table; none if the key is not known there
abbrev pub kind_at : (name key : Bytes) → Option Kind
kind_at name key =
    if is_region name then region_kind key
    else (if bytes_eq name (codes "farm") then farm_kind key
    else None)

abbrev pub is_table_name : Bytes → Bool
is_table_name name = list_any (bytes_eq name) (codes "home" ∷ codes "west" ∷ codes "farm" ∷ [])

-- Tests of all members and of all items

abbrev pub all_members : (Bytes → Data → Bool) → Members → Bool
all_members test no_members = true
all_members test (member key value more) = test key value && all_members test more

abbrev pub all_inside : (Bytes → Data → Bool) → Option Members → Bool
all_inside test None = true
all_inside test (Some members) = all_members test members

-- inside a value that is a table each member passes the test; of another value nothing is asked
abbrev pub inside : (Bytes → Data → Bool) → Data → Bool
inside test value = all_inside test (as_table value)

abbrev pub all_items : (Data → Bool) → Items → Bool
all_items test no_items = true
all_items test (item value more) = test value && all_items test more

abbrev pub count_of : Items → ℕ
count_of no_items = 0
count_of (item value more) = suc (count_of more)

-- The values are of their kinds

abbrev pub is_table : Data → Bool
is_table value = is_some (as_table value)

abbrev pub is_whole_number : Data → Bool
is_whole_number value = is_some (as_integer value)

abbrev pub are_whole_numbers : Option Items → Bool
are_whole_numbers None = false
are_whole_numbers (Some items) = all_items is_whole_number items

abbrev pub is_list_of_numbers : Data → Bool
is_list_of_numbers value = are_whole_numbers (as_array value)

abbrev pub is_of_kind : Option Kind → Data → Bool
is_of_kind None value = false
is_of_kind (Some (Number least greatest)) value = is_whole_number value
is_of_kind (Some Weights) value = is_list_of_numbers value

-- The numbers are in their ranges

abbrev pub lies_between : (least greatest : ℕ) → ℤ → Bool
lies_between least greatest (pos n) = nat_le least n && nat_le n greatest
lies_between least greatest (negsuc n) = false

abbrev pub number_between : (least greatest : ℕ) → Option ℤ → Bool
number_between least greatest None = false
number_between least greatest (Some z) = lies_between least greatest z

abbrev pub is_between : (least greatest : ℕ) → Data → Bool
is_between least greatest value = number_between least greatest (as_integer value)

abbrev pub is_weight : Data → Bool
is_weight value = is_between 0 weight_max value

abbrev pub are_allowed_weights : Option Items → Bool
are_allowed_weights None = false
are_allowed_weights (Some items) =
    nat_lt 0 (count_of items) && nat_le (count_of items) replicas_max && all_items is_weight items

abbrev pub are_weights : Data → Bool
are_weights value = are_allowed_weights (as_array value)

abbrev pub is_in_range : Option Kind → Data → Bool
is_in_range None value = false
is_in_range (Some (Number least greatest)) value = is_between least greatest value
is_in_range (Some Weights) value = are_weights value

-- The rules on a document, each a test of what stands at the top and one of what stands inside

abbrev pub table_passes : Rule → (name : Bytes) → Data → Bool
table_passes Names name value = is_table_name name
table_passes Kinds name value = is_table value
table_passes Ranges name value = true

abbrev pub passes : Rule → Option Kind → Data → Bool
passes Names kind value = is_some kind
passes Kinds kind value = is_of_kind kind value
passes Ranges kind value = is_in_range kind value

abbrev pub key_passes : Rule → (name key : Bytes) → Data → Bool
key_passes rule name key value = passes rule (kind_at name key) value

abbrev pub member_passes : Rule → (name : Bytes) → Data → Bool
member_passes rule name value = table_passes rule name value && inside (key_passes rule name) value

abbrev pub keeps : Rule → Members → Bool
keeps rule = all_members (member_passes rule)

-- What a document says that keeps the rules

pub record Plan : Type 0 where
  pub home_weights : List ℕ
  pub home_slots : ℕ
  pub west_weights : List ℕ
  pub west_slots : ℕ
  pub epoch : ℕ
  pub workers : ℕ
  pub pace : ℕ
  pub bounds : Bounds

abbrev pub value_at : (name key : Bytes) → Members → Option Data
value_at name key document = option_and_then (get key) (get_member name document)

abbrev pub natural : ℤ → ℕ
natural (pos n) = n
natural (negsuc n) = 0

abbrev pub number_in : Option ℤ → ℕ
number_in None = 0
number_in (Some z) = natural z

abbrev pub number_of : Data → ℕ
number_of value = number_in (as_integer value)

abbrev pub numbers_of_items : Items → List ℕ
numbers_of_items no_items = []
numbers_of_items (item value more) = number_of value ∷ numbers_of_items more

abbrev pub numbers_in : Option Items → List ℕ
numbers_in None = []
numbers_in (Some items) = numbers_of_items items

abbrev pub numbers_of : Data → List ℕ
numbers_of value = numbers_in (as_array value)

abbrev pub number_or : (default : ℕ) → Option Data → ℕ
number_or default None = default
number_or default (Some value) = number_of value

-- one replica if the key is absent
abbrev pub weights_or_one : Option Data → List ℕ
weights_or_one None = 1 ∷ []
weights_or_one (Some value) = numbers_of value

abbrev pub weights_at : (name : Bytes) → Members → List ℕ
weights_at name document = weights_or_one (value_at name (codes "weights") document)

abbrev pub slots_at : (name : Bytes) → Members → ℕ
slots_at name document = number_or slots_default (value_at name (codes "slots") document)

abbrev pub bounds_in : Members → Bounds
bounds_in document =
    record {
      commit_delay = number_or default_bounds.commit_delay (value_at (codes "farm") (codes "commit_delay") document);
      read_lag = number_or default_bounds.read_lag (value_at (codes "farm") (codes "read_lag") document);
      skew = number_or default_bounds.skew (value_at (codes "farm") (codes "skew") document);
    }

abbrev pub plan_in : Members → Plan
plan_in document =
    record {
      home_weights = weights_at (codes "home") document;
      home_slots = slots_at (codes "home") document;
      west_weights = weights_at (codes "west") document;
      west_slots = slots_at (codes "west") document;
      epoch = number_or 0 (value_at (codes "farm") (codes "epoch") document);
      workers = number_or 1 (value_at (codes "farm") (codes "workers") document);
      pace = number_or pace_max (value_at (codes "farm") (codes "pace") document);
      bounds = bounds_in document;
    }

-- The rules, in order

abbrev pub document_in : Bytes → Option Members
document_in text = if nat_le (length text) layout_max && is_utf8 text then parse_document text else None

abbrev pub layout_of_document : Option Members → Result Plan ℕ
layout_of_document None = Err 1
layout_of_document (Some document) =
    if not (keeps Names document) then Err 2
    else (if not (keeps Kinds document) then Err 3
    else (if not (keeps Ranges document) then Err 4
    else Ok (plan_in document)))

-- what a layout says, or the first rule that the text breaks
abbrev pub layout_of : Bytes → Result Plan ℕ
layout_of text = layout_of_document (document_in text)

-- what a farm of this layout has for good, in whatever way titles go together
abbrev pub setting_of : (together : Region → Title → Title → Bool) → (opened : ℕ) → Plan → Setting
setting_of together opened plan =
    record {
      home_weights = plan.home_weights;
      west_weights = plan.west_weights;
      epoch = plan.epoch;
      workers = plan.workers;
      bounds = plan.bounds;
      together = together;
      opened = opened;
    }
