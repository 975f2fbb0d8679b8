-- Layouts, computed. What is expected was read off the table of keys by hand; each name says what the layout shows.
use Rattle.std.specs.Prelude.{◌≡◌, [], ◌∷◌, ◌++◌, Ok, Err, codes, refl}
use Rattle.std.specs.Str.{is_utf8, chars}
use lib.Utf8.{encode}
use Rattle.toml.proofs.OnLiterals.{toml_on_literals}
use Rattle.wiki_model.specs.Bytes.{Bytes, line_feed}
use Rattle.wiki_model.specs.Limits.{default_bounds}
use Rattle.wiki_layout.specs.Layout.{Plan, layout_of}

abbrev line : Bytes → Bytes
line text = text ++ line_feed ∷ []

abbrev default_layout : Plan
default_layout =
    record {
      home_weights = 1 ∷ [];
      home_slots = 4_096;
      west_weights = 1 ∷ [];
      west_slots = 4_096;
      epoch = 0;
      workers = 1;
      pace = 1_000;
      bounds = default_bounds;
    }

the_empty_text_is_the_default_layout : layout_of [] ≡ Ok default_layout
unfolding toml_on_literals is_utf8 chars encode
the_empty_text_is_the_default_layout = refl

a_whole_layout_says_each_key : layout_of
    (line (codes "[home]") ++ line (codes "weights = [3, 1]") ++ line (codes "slots = 256") ++ line []
    ++ line (codes "[west]") ++ line (codes "weights = [1]") ++ line (codes "slots = 4096") ++ line []
    ++ line (codes "[farm]") ++ line (codes "epoch = 7") ++ line (codes "workers = 2") ++ line (codes "pace = 10"))
    ≡ Ok (record default_layout { home_weights = 3 ∷ 1 ∷ []; home_slots = 256; epoch = 7; workers = 2; pace = 10 })
unfolding toml_on_literals is_utf8 chars encode
a_whole_layout_says_each_key = refl

delays_may_be_zero : layout_of
    (line (codes "[farm]") ++ line (codes "commit_delay = 0") ++ line (codes "read_lag = 0")
    ++ line (codes "skew = 60000"))
    ≡ Ok (record default_layout { bounds = record { commit_delay = 0; read_lag = 0; skew = 60_000 } })
unfolding toml_on_literals is_utf8 chars encode
delays_may_be_zero = refl

a_sign_alone_is_no_document : layout_of (codes "=") ≡ Err 1
unfolding toml_on_literals is_utf8 chars encode
a_sign_alone_is_no_document = refl

a_number_past_64_bits_is_no_document : layout_of (line (codes "[farm]") ++ line (codes "epoch = 9223372036854775808"))
    ≡ Err 1
unfolding toml_on_literals is_utf8 chars encode
a_number_past_64_bits_is_no_document = refl

another_table_is_not_known : layout_of (line (codes "[edge]")) ≡ Err 2
unfolding toml_on_literals is_utf8 chars encode
another_table_is_not_known = refl

names_come_before_kinds_and_ranges : layout_of
    (line (codes "home = 1") ++ line (codes "[farm]") ++ line (codes "paces = 0"))
    ≡ Err 2
unfolding toml_on_literals is_utf8 chars encode
names_come_before_kinds_and_ranges = refl

kinds_come_before_ranges : layout_of (line (codes "[farm]") ++ line (codes "pace = 0") ++ line (codes "skew = 1.0"))
    ≡ Err 3
unfolding toml_on_literals is_utf8 chars encode
kinds_come_before_ranges = refl

a_table_in_a_key_is_of_another_kind : layout_of (line (codes "[home.weights]") ++ line (codes "x = 1")) ≡ Err 3
unfolding toml_on_literals is_utf8 chars encode
a_table_in_a_key_is_of_another_kind = refl

a_negative_number_is_out_of_range : layout_of (line (codes "[farm]") ++ line (codes "epoch = -1")) ≡ Err 4
unfolding toml_on_literals is_utf8 chars encode
a_negative_number_is_out_of_range = refl

the_clocks_differ_by_something : layout_of (line (codes "[farm]") ++ line (codes "skew = 0")) ≡ Err 4
unfolding toml_on_literals is_utf8 chars encode
the_clocks_differ_by_something = refl

a_region_has_a_replica : layout_of (line (codes "[west]") ++ line (codes "weights = []")) ≡ Err 4
unfolding toml_on_literals is_utf8 chars encode
a_region_has_a_replica = refl
