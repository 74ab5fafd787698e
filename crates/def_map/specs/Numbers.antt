-- A crate with other names, as numbers, and other identities of items. Names that have no number, since no path asks for them, are left out.
use Rattle.std.specs.Prelude.{◌≡◌, ℕ, Option, Some, None, map, option_map, Contains}
use Rattle.std.specs.Option.{option_map_or}
use Rattle.std.specs.List.{filter_map}
use Rattle.def_map.specs.Crates.{Crate, Thing, a_module, an_item, a_scope, unseen, NameDeclaration, Binding, a_glob, a_name, underscore, nameless, PathImport}
use Rattle.def_map.specs.Facts.{Fact, names, stands, gives, Derives, IsImport}

module _ {N I M J : Type 0} (number : N → Option M) (item : I → J) where
  abbrev pub numbered_thing : Thing I → Thing J
  numbered_thing (a_module m) = a_module m
  numbered_thing (an_item x) = an_item (item x)
  numbered_thing (a_scope x) = a_scope (item x)
  numbered_thing unseen = unseen

  abbrev pub numbered_declaration : NameDeclaration N I → Option (NameDeclaration M J)
  numbered_declaration x = option_map
      (λ n. record { parent = x.parent; namespace = x.namespace; name = n; thing = numbered_thing x.thing; visibility = x.visibility; is_sure = x.is_sure }) (number x.name)

  -- a name that no path asks for is bound as if by `_`
  abbrev pub numbered_binding : Binding N → Binding M
  numbered_binding a_glob = a_glob
  numbered_binding (a_name n) = option_map_or a_name (number n) underscore
  numbered_binding underscore = underscore
  numbered_binding nameless = nameless

  abbrev pub renumbered_import : PathImport N → PathImport M
  renumbered_import u = record {
    parent = u.parent;
    start = u.start;
    names = filter_map number u.names;
    binding = numbered_binding u.binding;
    of_types = u.of_types;
    visibility = u.visibility;
  }

  abbrev pub numbered_macro : N × I → Option (M × J)
  numbered_macro p = option_map (λ n. (n, item p.1)) (number p.0)

  abbrev pub numbered_other : N × Thing I → Option (M × Thing J)
  numbered_other p = option_map (λ n. (n, numbered_thing p.1)) (number p.0)

  abbrev pub crate_by_numbers : Crate N I → Crate M J
  crate_by_numbers c = record {
    parents = c.parents;
    declarations = filter_map numbered_declaration c.declarations;
    imports = map renumbered_import c.imports;
    veils = c.veils;
    macro_rules = filter_map numbered_macro c.macro_rules;
    others = option_map (filter_map numbered_other) c.others;
    is_2015 = c.is_2015;
  }

  -- different names have different numbers, and each name of a path has one
  pub record IsNumbering (c : Crate N I) : Type 0 where
    pub different : (a b : N) (n : M) → number a ≡ Some n → number b ≡ Some n → a ≡ b
    pub asked : (i : ℕ) (u : PathImport N) (n : N) → IsImport c i u → Contains u.names n → (k : M) × (number n ≡ Some k)

  abbrev pub numbered_name : Option N → Option (Option M)
  numbered_name None = Some None
  numbered_name (Some n) = option_map Some (number n)

  abbrev pub numbered_fact : Fact N I → Option (Fact M J)
  numbered_fact (names m ns name t v) = option_map (λ n. names m ns n (numbered_thing t) v) (numbered_name name)
  numbered_fact (stands i k t) = Some (stands i k (numbered_thing t))
  numbered_fact (gives i ns t v) = Some (gives i ns (numbered_thing t) v)

  -- what is derived of the one is derived of the other, if it is asked for
  pub record DerivesAlike (c : Crate N I) : Type 0 where
    pub to_numbers : (f : Fact N I) (g : Fact M J) → numbered_fact f ≡ Some g → Derives c f → Derives (crate_by_numbers c) g
    pub from_numbers : (g : Fact M J) → Derives (crate_by_numbers c) g → (same : Fact N I) × (numbered_fact same ≡ Some g) × Derives c same

  abbrev pub NumbersKeep : Crate N I → Type 0
  NumbersKeep c = IsNumbering c → DerivesAlike c
