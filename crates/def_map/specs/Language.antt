-- Names that modules have without declaring them.
use Rattle.std.specs.Prelude.{ℕ, Bool, List, [], ◌∷◌, codes, if◌then◌else◌}

-- crates that every crate may name
abbrev pub builtin_crates : List (List ℕ)
builtin_crates = codes "alloc" ∷ codes "core" ∷ codes "proc_macro" ∷ codes "std" ∷ codes "test" ∷ []

-- types and traits that every module may name: of the preludes, of all editions, and built in
abbrev pub prelude_types : List (List ℕ)
prelude_types =
    codes "AsMut" ∷ codes "AsRef" ∷ codes "AsyncFn" ∷ codes "AsyncFnMut" ∷ codes "AsyncFnOnce" ∷ codes "Box" ∷ codes "Clone" ∷ codes "Copy" ∷ codes "Default"
    ∷ codes "DoubleEndedIterator" ∷ codes "Drop" ∷ codes "Eq" ∷ codes "ExactSizeIterator" ∷ codes "Extend" ∷ codes "Fn" ∷ codes "FnMut" ∷ codes "FnOnce"
    ∷ codes "From" ∷ codes "FromIterator" ∷ codes "Future" ∷ codes "Into" ∷ codes "IntoFuture" ∷ codes "IntoIterator" ∷ codes "Iterator" ∷ codes "Option"
    ∷ codes "Ord" ∷ codes "PartialEq" ∷ codes "PartialOrd" ∷ codes "Result" ∷ codes "Send" ∷ codes "Sized" ∷ codes "String" ∷ codes "Sync" ∷ codes "ToOwned"
    ∷ codes "ToString" ∷ codes "TryFrom" ∷ codes "TryInto" ∷ codes "Unpin" ∷ codes "Vec" ∷ codes "bool" ∷ codes "char" ∷ codes "f128" ∷ codes "f16"
    ∷ codes "f32" ∷ codes "f64" ∷ codes "i128" ∷ codes "i16" ∷ codes "i32" ∷ codes "i64" ∷ codes "i8" ∷ codes "isize" ∷ codes "str" ∷ codes "u128"
    ∷ codes "u16" ∷ codes "u32" ∷ codes "u64" ∷ codes "u8" ∷ codes "usize" ∷ []

-- crates that the root has by its edition
abbrev pub root_crates : Bool → List (List ℕ)
root_crates is_2015 = if is_2015 then codes "std" ∷ codes "core" ∷ [] else []
