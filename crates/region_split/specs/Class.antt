-- The class of a copy, by the memories of its source and its destination (docs/LANGUAGE.md, "Copies").
use Rattle.task_ast.specs.declared.tree.Kind.{Kind}
use Rattle.task_ast.specs.declared.tree.Kind.TheVariants.{Nv, Const, Vol}
use Rattle.region_split.specs.declared.class.Memory.{Memory}
use Rattle.region_split.specs.declared.class.Memory.TheVariants.{Fram, ConstFram, Ram}
use Rattle.region_split.specs.declared.class.DmaClass.{DmaClass}
use Rattle.region_split.specs.declared.class.DmaClass.TheVariants.{Single, Private, Exclude, Always}

-- the class of a copy into RAM
abbrev pub class_into_ram : (source : Memory) → DmaClass
class_into_ram ConstFram = Exclude
class_into_ram Fram = Private
class_into_ram Ram = Always

-- the class of a copy: into FRAM it is done once
abbrev pub class_of : (source destination : Memory) → DmaClass
class_of source Fram = Single
class_of source ConstFram = Single
class_of source Ram = class_into_ram source

-- the memory in which an array's words stand
abbrev pub memory_of : Kind → Memory
memory_of Nv = Fram
memory_of Const = ConstFram
memory_of Vol = Ram
