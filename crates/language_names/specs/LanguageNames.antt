-- Names that are the language's own.
use Rattle.std.specs.Prelude.{ℕ, ◌==◌, Bool, true, false, not, ◌&&◌, ◌||◌, List, [], ◌∷◌, ◌++◌, length, codes, nat_eq, if◌then◌else◌}
use Rattle.std.specs.{List.starts_with, Option.option_map_or, Cmp.Lexicographic.pointwise}
use Rattle.hir_input.specs.Cfg.{AtomView, CfgView, invalid, atom, all_of, any_of, not_of, CfgViews, no_cfgs, cfg_and}
use Rattle.hir_input.specs.Name.{is_among}
use Rattle.hir_input.specs.declared.attr.Attr.{Attr}
use Rattle.hir_input.specs.declared.mod_path.PathKind.{PathKind}
use Rattle.hir_input.specs.declared.mod_path.PathKind.TheVariants as path

-- attributes that take nothing away and add nothing; those that begin with `rustc_` are the language's, too
abbrev pub language_attributes : List (List ℕ)
language_attributes =
    codes "allow" ∷ codes "allow_internal_unsafe" ∷ codes "allow_internal_unstable" ∷ codes "automatically_derived" ∷ codes "bench" ∷ codes "cfg"
    ∷ codes "cfg_attr" ∷ codes "cold" ∷ codes "collapse_debuginfo" ∷ codes "compiler_builtins" ∷ codes "coroutine" ∷ codes "coverage" ∷ codes "crate_name"
    ∷ codes "crate_type" ∷ codes "debugger_visualizer" ∷ codes "default_lib_allocator" ∷ codes "deny" ∷ codes "deprecated" ∷ codes "derive" ∷ codes "doc"
    ∷ codes "expect" ∷ codes "export_name" ∷ codes "feature" ∷ codes "forbid" ∷ codes "fundamental" ∷ codes "global_allocator" ∷ codes "ignore" ∷ codes "inline"
    ∷ codes "instruction_set" ∷ codes "lang" ∷ codes "link" ∷ codes "link_name" ∷ codes "link_ordinal" ∷ codes "link_section" ∷ codes "linkage"
    ∷ codes "macro_export" ∷ codes "macro_use" ∷ codes "marker" ∷ codes "may_dangle" ∷ codes "must_use" ∷ codes "naked" ∷ codes "needs_allocator"
    ∷ codes "needs_panic_runtime" ∷ codes "no_builtins" ∷ codes "no_core" ∷ codes "no_implicit_prelude" ∷ codes "no_link" ∷ codes "no_main" ∷ codes "no_mangle"
    ∷ codes "no_std" ∷ codes "non_exhaustive" ∷ codes "optimize" ∷ codes "panic_handler" ∷ codes "panic_runtime" ∷ codes "path"
    ∷ codes "profiler_runtime" ∷ codes "recursion_limit" ∷ codes "repr"
    ∷ codes "should_panic" ∷ codes "stable" ∷ codes "target_feature" ∷ codes "test" ∷ codes "test_case" ∷ codes "thread_local"
    ∷ codes "track_caller" ∷ codes "type_length_limit" ∷ codes "unstable" ∷ codes "used" ∷ codes "warn" ∷ codes "windows_subsystem" ∷ []

-- tools: their attributes are read by them alone
abbrev pub tools : List (List ℕ)
tools = codes "clippy" ∷ codes "diagnostic" ∷ codes "miri" ∷ codes "rust_analyzer" ∷ codes "rustfmt" ∷ []

-- under one of these an item may be missing
abbrev pub test_attributes : List (List ℕ)
test_attributes = codes "bench" ∷ codes "test" ∷ codes "test_case" ∷ []

-- derives that write implementations and nothing else
abbrev pub core_derives : List (List ℕ)
core_derives =
    codes "Clone" ∷ codes "Copy" ∷ codes "Debug" ∷ codes "Default" ∷ codes "Eq" ∷ codes "Hash" ∷ codes "Ord" ∷ codes "PartialEq" ∷ codes "PartialOrd" ∷ []

-- the names of cfgs that the compiler sets, or the user never
abbrev pub compiler_cfgs : List (List ℕ)
compiler_cfgs =
    codes "clippy" ∷ codes "debug_assertions" ∷ codes "doc" ∷ codes "doctest" ∷ codes "false" ∷ codes "fmt_debug" ∷ codes "miri" ∷ codes "overflow_checks"
    ∷ codes "panic" ∷ codes "relocation_model" ∷ codes "rustfmt" ∷ codes "sanitize" ∷ codes "target_abi" ∷ codes "target_arch"
    ∷ codes "target_endian" ∷ codes "target_env" ∷ codes "target_family" ∷ codes "target_feature" ∷ codes "target_has_atomic" ∷ codes "target_object_format"
    ∷ codes "target_os" ∷ codes "target_pointer_width" ∷ codes "target_thread_local" ∷ codes "target_vendor" ∷ codes "test" ∷ codes "true" ∷ codes "ub_checks"
    ∷ codes "unix" ∷ codes "windows" ∷ []

-- ---- attributes

-- a name that begins with `rustc_`
abbrev pub is_of_rustc : List ℕ → Bool
is_of_rustc name = starts_with nat_eq name (codes "rustc_")

-- a name that is an attribute of the language's if it stands alone
abbrev pub is_language_name : List ℕ → Bool
is_language_name name = is_among language_attributes name || is_of_rustc name

-- the path of an attribute that is the language's
abbrev pub is_language_by : PathKind → List (List ℕ) → Bool
is_language_by path.Plain (name ∷ more) = if length more == 0 then is_among language_attributes name || is_of_rustc name else is_among tools name
is_language_by kind names = false

abbrev pub is_language : Attr → Bool
is_language a = is_language_by a.path.kind a.path.names

-- ---- derives

-- a byte that stands between the names of derives
abbrev pub is_derive_gap : ℕ → Bool
is_derive_gap b = b == 40 || b == 41 || b == 44 || b == 32 || b == 10 || b == 9 || b == 13

-- nothing, or the name of a derive that is core's
abbrev pub is_core_derive : List ℕ → Bool
is_core_derive [] = true
is_core_derive (b ∷ bs) = is_among core_derives (b ∷ bs)

-- the words of a text are names of derives that are core's, the first of which begins with a part that is read
abbrev pub are_core_derives : List ℕ → List ℕ → Bool
are_core_derives part [] = is_core_derive part
are_core_derives part (b ∷ bs) = if is_derive_gap b then is_core_derive part && are_core_derives [] bs else are_core_derives (part ++ b ∷ []) bs

-- ---- cfgs

-- a key and a value that are one of the features
abbrev pub is_feature : List (List ℕ) → List ℕ → List ℕ → Bool
is_feature features key value = pointwise nat_eq key (codes "feature") && is_among features value

-- an atom that is neither one of the features nor the compiler's: a build script may set it
abbrev pub is_unknown_atom : List (List ℕ) → AtomView → Bool
is_unknown_atom features a = if option_map_or (is_feature features a.name) a.value false then false else not (is_among compiler_cfgs a.name)

-- a condition has such an atom
abbrev mutual
  pub has_unknown : List (List ℕ) → CfgView → Bool
  has_unknown features invalid = false
  has_unknown features (atom a) = is_unknown_atom features a
  has_unknown features (all_of cs) = have_unknown features cs
  has_unknown features (any_of cs) = have_unknown features cs
  has_unknown features (not_of c) = has_unknown features c

  pub have_unknown : List (List ℕ) → CfgViews → Bool
  have_unknown features no_cfgs = false
  have_unknown features (cfg_and c cs) = has_unknown features c || have_unknown features cs
