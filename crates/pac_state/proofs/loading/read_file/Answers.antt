-- The fields of a file in which nothing is wrong, or the first thing that is.
use Rattle.pac_state.proofs.Common.{Parts, ap, arith, digest_of, load_fault, rules, sym, ◌∙◌, ◌≡◌}
use Rattle.pac_state.proofs.Files.{fault-of-file}
use Rattle.pac_state.proofs.Taken.{size-of}
use Rattle.pac_state.proofs.loading.read_file.Goals as goal

pub returns-in-Some : goal.returns-in-Some
returns-in-Some c = grind (arith, fault-of-file)

pub fields_in-requires : goal.fields_in-requires
fields_in-requires c = size-of c.args.digest.now c.args.bytes.now (sym c.fault_of.ensures ∙ c.in_default.is)

pub returns-in-Some-fields_in : goal.returns-in-Some-fields_in
returns-in-Some-fields_in c = λ (set : Parts) (same : digest_of set ≡ c.args.digest.now).
    record {
      sound = ap (λ digest. load_fault digest c.args.bytes.now) same ∙ sym c.fault_of.ensures ∙ c.in_default.is;
      text = c.in-Some-fields_in.ensures.holds;
      state = c.in-Some-fields_in.ensures.state;
      in_range = c.in-Some-fields_in.ensures.in_range;
    }

pub returns-in-None : goal.returns-in-None
returns-in-None c = search rules
