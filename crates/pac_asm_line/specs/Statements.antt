-- Believed: what a line of the source says (this profile's source language).
use Rattle.std.specs.Prelude.{ℕ, List, Option}
use Rattle.pac_expr.specs.Trees.{Tree}
use Rattle.pac_asm_operation.specs.Operations.{Operation}

-- one operand of a DEFB: the characters of a text, or an expression
pub data DataPart : Type 0 where
  text : (characters : List ℕ) → DataPart
  value : (tree : Tree) → DataPart

-- what stands in a line besides its label
pub data Statement : Type 0 where
  nothing : Statement
  -- ORG
  origin : (place : Tree) → Statement
  -- EQU
  equate : (number : Tree) → Statement
  -- DEFB, and DEFM, which has one text
  bytes : (parts : List DataPart) → Statement
  -- DEFW
  words : (numbers : List Tree) → Statement
  -- DEFS: how many bytes, and which, if that is told
  space : (size : Tree) → (fill : Option Tree) → Statement
  -- IF, ELSE and ENDIF
  condition : (test : Tree) → Statement
  otherwise : Statement
  end_condition : Statement
  -- an instruction
  operation : (written : Operation) → Statement

pub record Form : Type 0 where
  pub label : Option (List ℕ)
  pub statement : Statement
