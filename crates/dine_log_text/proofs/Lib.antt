pub mod EdgeLines
pub mod EntryTexts
pub mod MealParts
